-- The loads of a lawful placement sum to the popularities, whatever the placement and its counts.
-- Assumes nothing.
use mathlib.Core.Path.{◌≡◌, ◌∙◌}
use mathlib.Core.List.{List}
use Prim.Native.Nat.{ℕ, ◌*◌}
use native.Mathlib.Nat.{mul_comm}
use Rattle.order.specs.Sum.{sum}
use Rattle.order.proofs.Sums.{sum-cong, sum-scale, sum-exchange}
use Rattle.model.specs.Plan.{Plan, machines, block_count, block_of}
use Rattle.model.specs.Replication.{share}
use Rattle.model.specs.Placement.{bit, word_of, held, count_of, replicas, share_of, load, total_load_of}
use Rattle.theory.proofs.Replication.{share_laws}
use Rattle.theorems.specs.TotalLoad.{LoadsTotal}

-- block i's part of the total: its share on each machine that holds it
block-load : (p : Plan) (words : List ℕ) (i : ℕ)
    → sum (machines p) (λ m. held words m i * share_of p words i) ≡ count_of p words i * share_of p words i
unfolding replicas
block-load p words i =
    sum-scale (machines p) (share_of p words i) (bit (word_of words i)) ∙ mul_comm (share_of p words i) _

-- Summed over the blocks first, a block with count k has k times its share, which is 2520 times its popularity, as shares are exact.
pub loads-total : LoadsTotal
unfolding total_load_of load share_of
loads-total p valid count words feasible =
    sum-exchange (machines p) (block_count p) (λ m i. held words m i * share_of p words i)
    ∙ sum-cong (block_count p) (λ i. sum (machines p) (λ m. held words m i * share_of p words i))
    (λ i. count i * share (block_of p i).popularity (count i))
    (λ i l. block-load p words i ∙ (rw (feasible.counted i l)))
    ∙ share_laws.conserved p count valid feasible.counts
