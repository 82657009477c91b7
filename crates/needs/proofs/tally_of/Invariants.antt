-- `needs::tally_of` meets its contract. The loop's invariant: the sum of the needs passed; below the smallest share of one copy less
-- they stay as they are, and there each block that has it needs one copy less.
-- Assumes nothing.
use mathlib.Core.Path.{◌≡◌}
use Prim.Native.Nat.{ℕ, ◌+◌, ◌*◌, ◌<◌, ◌≤◌}
use Rattle.order.specs.Sum.{sum}
use Rattle.model.specs.Plan.{Plan, upper}
use Rattle.model.specs.Replication.{need}
use Rattle.theory.specs.Widths.{most_replicas}
use Rattle.cluster.specs.Blocks.{DemandsOf}
use Rattle.needs.specs.Needs.{next_share, next_blocks}
use Rattle.needs.proofs.tally_of.Given as goal

-- block i's need is lawful, and the same for a figure from `wanted` on and below `next`
abbrev pub Stays : Plan → ℕ → ℕ → ℕ → Type 0
Stays p wanted next i = (need p wanted i ≤ upper p i) × ((f : ℕ) → wanted ≤ f → f < next → need p f i ≡ need p wanted i)

-- the needs of the blocks passed, at the next share and below it
pub record Passed (p : Plan) (wanted next blocks total i : ℕ) : Type 0 where
  pub total-is : total ≡ sum i (need p wanted)
  pub stays : (k : ℕ) → k < i → Stays p wanted next k
  pub fewer-is : sum i (need p next) + blocks ≡ total

abbrev pub invariant-loop-demand : goal.invariant-loop-demand
invariant-loop-demand l =
    (l.total ≤ most_replicas * l.demand-index)
    × (next_blocks l.next ≤ l.demand-index)
    × (next_blocks l.next ≤ l.total)
    × (l.wanted < next_share l.next)
    × ((p : Plan) → DemandsOf p l.fn.cluster l.demands → Passed p l.wanted (next_share l.next) (next_blocks l.next) l.total l.demand-index)
