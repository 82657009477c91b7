-- `plan::Accepted::decode` meets its contract. The loop's invariant: the demands are filled as far as the loop has come, and these blocks'
-- popularities fit.
-- Assumes nothing.
use mathlib.Core.Path.{◌≡◌}
use Prim.Native.Nat.{ℕ, ◌<◌}
use lib.ListN.{length}
use Rattle.order.specs.Table.{filled}
use Rattle.model.specs.Plan.{block_of, plan_in}
use Rattle.theory.specs.Widths.{popularity_bound}
use Rattle.cluster.specs.Blocks.{demand_of}
use Rattle.plan.proofs.passed.Accepted.decode.Given as goal

abbrev pub invariant-loop-i : goal.invariant-loop-i
invariant-loop-i l =
    (l.demands ≡ filled l.i (demand_of (plan_in l.fn.self.records.bytes.now)) l.initial.demands)
    × ((k : ℕ) → k < l.i → (block_of (plan_in l.fn.self.records.bytes.now) k).popularity < popularity_bound)
    × (length l.demands ≡ length l.initial.demands)
