-- `header::field_at` meets its contract. The loop's invariant: the value is the field of the bytes passed, and below 256 for each of them.
-- Assumes nothing.
use mathlib.Core.Path.{◌≡◌, refl, ap₂}
use Prim.Native.Nat.{ℕ, ◌+◌, ◌*◌}
use native.Mathlib.Nat.{pow-suc}
use native.Mathlib.Numerals.{add-one}
use native.Mathlib.Omega.{arith}
use Rattle.model.specs.Plan.{field}
use Rattle.theory.proofs.Plan.{field-narrow}
use Rattle.header.proofs.field_at.Goals as goal

pub loop-k-init : goal.loop-k-init
unfolding field
loop-k-init c = (refl, omega arith)

pub overflow_mul-value : goal.overflow_mul-value
overflow_mul-value c =
    let few = field-narrow _ _ 3 c.loop-k.invariant.1 (omega arith) in
    omega arith

pub overflow_add-value : goal.overflow_add-value
overflow_add-value c =
    let few = field-narrow _ _ 3 c.loop-k.invariant.1 (omega arith) in
    omega arith

pub loop-k-preserved : goal.loop-k-preserved
unfolding field
loop-k-preserved c =
    rw (add-one c.loop-k.k) (
      ap₂ (λ (x y : ℕ). x * 256 + y) c.loop-k.invariant.0 c.from.ensures,
      (rw pow-suc (omega arith)),
    )

pub returns : goal.returns
returns c =
    let e : c.loop-k.k ≡ c.args.width = omega arith in
    (rw e at c.loop-k.invariant.0, rw e at c.loop-k.invariant.1)
