-- `index::Index::fill` meets its contract. The loop's invariant: the blocks passed are entered in both parts, and the order is as it was.
-- Assumes nothing.
use mathlib.Core.Path.{◌≡◌, refl, ap, ◌∙◌}
use mathlib.Core.List.{List}
use Prim.Native.Nat.{ℕ, ◌+◌, ◌<◌, ◌≤◌}
use native.Mathlib.Nat.{le_trans}
use native.Mathlib.Omega.{arith}
use lib.ListN.{get_or}
use Rattle.model.specs.Refusal.{max_blocks}
use Rattle.cluster.specs.declared.Cluster.{Cluster}
use Rattle.index.specs.declared.Index.{Index}
use Rattle.index.specs.Index.{rank_at, Ordered, Entered}
use Rattle.index.proofs.Laws.{filed-none, filed-step}
use Rattle.index.proofs.Index.fill.Invariants.{Filling}
use Rattle.index.proofs.Index.fill.Goals as goal

-- one block more: its number and its rank have room and are no other block's
module _ {c : Cluster} {profiles words : List ℕ} {entry index : Index} {i : ℕ} (few : c.blocks ≤ max_blocks)
    (order : Ordered c profiles entry) (past : Filling entry words index i) (here : i < c.blocks) where
  number-below : (k : ℕ) → k < i + 1 → k < max_blocks
  number-below k l = omega arith

  number-apart : (k : ℕ) → k < i → k ≡ i → ⊥
  number-apart k l e = omega arith

  rank_below : (k : ℕ) → k < i + 1 → rank_at entry k < max_blocks
  rank_below k l = le_trans (order.rank_below k (omega arith)) few

  rank-apart : (k : ℕ) → k < i → rank_at entry k ≡ rank_at entry i → ⊥
  rank-apart k l e = number-apart k l (order.rank-apart k i (omega arith) here e)

  same_rank : rank_at index i ≡ rank_at entry i
  same_rank = ap (λ (ranks : List ℕ). get_or ranks i 0) past.kept.ranks

  filling_step : {later : Index} → Entered index (get_or words i 0) i later → Filling entry words later (i + 1)
  filling_step entered =
      record {
        number = filed-step past.number number-below number-apart entered.numbered;
        rank = filed-step past.rank rank_below rank-apart (rw same_rank at entered.ranked);
        kept = record {
          keys = entered.kept.keys ∙ past.kept.keys;
          ranks = entered.kept.ranks ∙ past.kept.ranks;
          loads = entered.kept.loads ∙ past.kept.loads;
        };
      }

pub loop-i-init : goal.loop-i-init
loop-i-init c =
    let asked = c.requires in
    record {
      number = filed-none _ _ _ asked.cleared.by_number;
      rank = filed-none _ _ _ asked.cleared.by_rank;
      kept = record { keys = refl; ranks = refl; loads = refl };
    }

pub loop-i-preserved : goal.loop-i-preserved
loop-i-preserved c =
    let asked = c.requires in
    filling_step asked.in-range.blocks-max asked.ordered c.loop-i.invariant c.loop-i-test.true c.enter.ensures
