-- `plan::scan_records` meets its contract. The loop's invariant: no block passed is refused, and the total is their least copies'.
-- Assumes nothing.
use mathlib.Core.Path.{◌≡◌}
use mathlib.Core.Bool.{false}
use Prim.Native.Nat.{ℕ, ◌*◌, ◌<◌, ◌≤◌}
use Rattle.order.specs.Sum.{sum}
use Rattle.model.specs.Plan.{block_of, plan_in}
use Rattle.model.specs.Refusal.{is_refusal, block_refusal}
use Rattle.plan.proofs.scan_records.Given as goal

abbrev pub invariant-loop-i : goal.invariant-loop-i
invariant-loop-i l =
    (l.total ≡ sum l.i (λ k. (block_of (plan_in l.bytes) k).min_replicas))
    × (l.total ≤ 255 * l.i)
    × ((k : ℕ) → k < l.i → is_refusal (block_refusal (plan_in l.bytes) k) ≡ false)
