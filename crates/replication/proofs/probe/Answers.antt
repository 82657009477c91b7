-- `replication::probe` meets its contract: the weight is below 65,536, so the figure is below the upper end. What it is beside that
-- decides the number of probes and nothing else.
-- Assumes nothing.
use Prim.Native.Nat.{ℕ, ◌+◌, ◌*◌, ◌/◌, ◌-◌, ◌<◌, ◌≤◌}
use native.Mathlib.Nat.{mul-le-mul, mul-le-mul_left, div-lt_iff_lt-mul}
use native.Mathlib.Omega.{arith}
use Rattle.model.specs.Refusal.{max_machines, max_capacity}
use Rattle.theory.specs.Widths.{share_bound}
use Rattle.replication.specs.declared.Bracket.{Bracket}
use Rattle.replication.specs.Choice.{BracketFits}
use Rattle.replication.proofs.probe.Goals as goal

module _ (b : Bracket) (asked : BracketFits b × (b.low < b.high)) where
  abbrev over : ℕ
  over = b.low * (2 * b.over)

  abbrev both : ℕ
  both = over + b.high * (2 * b.spare + 1)

  abbrev weight : ℕ
  weight = over / (both / 65536 + 1)

  over-max : over ≤ share_bound * (2 * (max_machines * max_capacity))
  over-max =
      let narrow : b.low ≤ share_bound = omega (arith, asked.0.high-narrow, asked.1) in
      mul-le-mul narrow (mul-le-mul_left 2 asked.0.over-max)

  spare-max : b.high * (2 * b.spare + 1) ≤ share_bound * (2 * (max_machines * max_capacity) + 1)
  spare-max =
      let narrow : b.high ≤ share_bound = omega (arith, asked.0.high-narrow) in
      let twice : 2 * b.spare + 1 ≤ 2 * (max_machines * max_capacity) + 1 = omega (arith, asked.0.spare-max) in
      mul-le-mul narrow twice

  weight-below : weight < 65536
  weight-below = (div-lt_iff_lt-mul {k = both / 65536 + 1} (omega arith)).1 (omega arith)

  -- the way from the lower end
  way-max : (b.high - b.low) * weight ≤ (b.high - b.low) * 65535
  way-max = mul-le-mul_left (b.high - b.low) (omega (arith, weight-below))

pub overflow_mul-over : goal.overflow_mul-over
overflow_mul-over c = omega (arith, c.requires.0.over-max)

pub overflow_mul-over-2 : goal.overflow_mul-over-2
overflow_mul-over-2 c = let asked = c.requires in omega (arith, over-max _ asked)

pub overflow_mul-both : goal.overflow_mul-both
overflow_mul-both c = let asked = c.requires in omega (arith, asked.0.spare-max)

pub overflow_add-both : goal.overflow_add-both
overflow_add-both c = let asked = c.requires in omega (arith, asked.0.spare-max)

pub overflow_mul-both-2 : goal.overflow_mul-both-2
overflow_mul-both-2 c = let asked = c.requires in omega (arith, spare-max _ asked)

pub overflow_add-both-2 : goal.overflow_add-both-2
overflow_add-both-2 c = let asked = c.requires in omega (arith, over-max _ asked, spare-max _ asked)

pub overflow_add-weight : goal.overflow_add-weight
overflow_add-weight c = let asked = c.requires in omega (arith, over-max _ asked, spare-max _ asked)

pub overflow_mul-result : goal.overflow_mul-result
overflow_mul-result c = let asked = c.requires in omega (arith, way-max _ asked)

pub overflow_add-result-2 : goal.overflow_add-result-2
overflow_add-result-2 c = let asked = c.requires in omega (arith, way-max _ asked)

pub returns : goal.returns
returns c =
    let asked = c.requires in
    let way = way-max _ asked in (omega arith, omega arith)
