-- `needs::extent_of` meets its contract. The loop's invariant: the largest shares and the sums of the blocks passed.
-- Assumes nothing.
use mathlib.Core.Path.{◌≡◌}
use Prim.Native.Nat.{ℕ, ◌*◌, ◌<◌, ◌≤◌}
use Rattle.order.specs.Search.{largest}
use Rattle.order.specs.Sum.{sum}
use Rattle.model.specs.Plan.{Plan, block_of, upper}
use Rattle.model.specs.Replication.{share}
use Rattle.theory.specs.Widths.{most_replicas, popularity_bound, share_bound}
use Rattle.cluster.specs.Blocks.{DemandsOf}
use Rattle.needs.proofs.extent_of.Given as goal

-- block i's share at its upper count and at its least copies
abbrev pub most_share : Plan → ℕ → ℕ
most_share p i = share (block_of p i).popularity (upper p i)

abbrev pub least_share : Plan → ℕ → ℕ
least_share p i = share (block_of p i).popularity (block_of p i).min_replicas

abbrev pub invariant-loop-demand : goal.invariant-loop-demand
invariant-loop-demand l =
    (l.low < share_bound)
    × (l.high < share_bound)
    × (l.total ≤ popularity_bound * l.demand-index)
    × (l.copies ≤ most_replicas * l.demand-index)
    × ((p : Plan) → DemandsOf p l.fn.cluster l.demands
    → (l.low ≡ largest l.demand-index (most_share p)) × (l.high ≡ largest l.demand-index (least_share p)) × (l.copies ≡ sum l.demand-index (λ k. (block_of p k).min_replicas)))
