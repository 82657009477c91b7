-- `bits::groups_used` meets its contract. The loop's invariant: `used` counts the ranges passed that have a bit set.
-- Assumes nothing.
use mathlib.Core.Path.{◌≡◌, ap, ap₂, sym, ◌∙◌}
use Prim.Native.Nat.{ℕ, ◌+◌, ◌*◌, ◌≤◌}
use native.Mathlib.Nat.{mul-le-mul_right}
use native.Mathlib.Omega.{arith}
use Rattle.order.specs.Sum.{sum}
use Rattle.order.proofs.Sums.{sum-zero, sum_step}
use Rattle.bits.proofs.groups_used.Invariants.{hit}
use Rattle.bits.proofs.groups_used.Goals as goal

-- the group ends within the word
within : (c : goal.In-loop-d) → c.loop-d.d * c.args.size + c.args.size ≤ 64
within c =
    let size = c.args.size in
    omega (arith, mul-le-mul_right size c.loop-d-test.true)

pub loop-d-init : goal.loop-d-init
loop-d-init c = (omega arith, sym (sum-zero _), omega arith)

pub overflow_mul-d : goal.overflow_mul-d
overflow_mul-d c = omega (arith, within c)

pub any_of-used-requires : goal.any_of-used-requires
any_of-used-requires c = (within c, omega arith)

pub loop-d-preserved : goal.loop-d-preserved
loop-d-preserved c =
    let at = c in
    let a = at.args in (
      omega arith,
      ap₂ ◌+◌ at.loop-d.invariant.1 c.any_of-used.ensures ∙ sym (sum_step at.loop-d.d (hit a.word a.size)),
      omega arith,
    )

pub returns : goal.returns
returns c =
    let at = c in
    let a = at.args in
    let done : at.loop-d.d ≡ a.groups = omega arith in
    at.loop-d.invariant.1 ∙ ap (λ (n : ℕ). sum n (hit a.word a.size)) done
