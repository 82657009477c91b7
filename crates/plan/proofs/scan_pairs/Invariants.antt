-- `plan::scan_pairs` meets its contract. The loop's invariant: no block passed is refused.
-- Assumes nothing.
use mathlib.Core.Path.{◌≡◌}
use mathlib.Core.Bool.{false}
use Prim.Native.Nat.{ℕ, ◌<◌}
use Rattle.model.specs.Plan.{plan_in}
use Rattle.model.specs.Refusal.{is_refusal, pair_refusal}
use Rattle.plan.proofs.scan_pairs.Given as goal

abbrev pub invariant-loop-i : goal.invariant-loop-i
invariant-loop-i l =
    ((k : ℕ) → k < l.i → is_refusal (pair_refusal (plan_in l.bytes) k) ≡ false)
