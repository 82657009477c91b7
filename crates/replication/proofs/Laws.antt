-- Laws of the choice of counts that several of its functions cite.
-- Assumes nothing.
use mathlib.Core.Path.{◌≡◌, sym}
use mathlib.Core.Bool.{true}
use mathlib.Core.List.{List}
use Prim.Native.Nat.{ℕ, ◌<◌, ◌≤◌}
use native.Mathlib.Nat.{le_trans, le_of_eq, le_of_lt}
use lib.ListN.{get_or}
use Rattle.model.specs.Plan.{Plan, upper}
use Rattle.model.specs.Replication.{copy_limit as limit_of, share, largest_share, reachable}
use Rattle.theory.specs.Refusal.{Valid}
use Rattle.theory.proofs.Replication.{need-falls, reachable-parts, largest_share-term}
use Rattle.cluster.specs.declared.Cluster.{Cluster}
use Rattle.cluster.specs.Blocks.{popularity_in, most_in, DemandsOf}
use Rattle.cluster.proofs.Laws.{cluster-blocks, demands-popularity, demands-most}
use Rattle.needs.specs.declared.Tally.{Tally}
use Rattle.needs.specs.Needs.{TallyOf}

-- ── demands of a plan ────────────────────────────────────────────────────────────────────────────
module _ (p : Plan) (c : Cluster) (demands : List ℕ) (of : DemandsOf p c demands) where
  -- within a figure that is not below their largest share, all blocks can have theirs
  pub most-within : (wanted : ℕ) → largest_share p (upper p) ≤ wanted
      → (i : ℕ) → i < c.blocks → share (popularity_in (get_or demands i 0)) (most_in (get_or demands i 0)) ≤ wanted
  most-within wanted most i l =
      rw (demands-popularity p c demands of i l, demands-most p c demands of i l)
      (le_trans (largest_share-term p (upper p) i (rw (cluster-blocks p c of.cluster) at l)) most)

-- ── TallyOf ──────────────────────────────────────────────────────────────────────────────────────
-- a figure is reachable where the needs are within the limit
pub tally-reached : (p : Plan) (wanted : ℕ) (t : Tally) → TallyOf p wanted t → t.total ≤ limit_of p → reachable p wanted ≡ true
tally-reached p wanted t of l = (reachable-parts p wanted).1 (of.in-upper, le_trans (le_of_eq (sym of.total-is)) l)

-- and so is the next share where the needs there are
pub tally-next-reached : (p : Plan) (wanted : ℕ) (t : Tally) → Valid p → TallyOf p wanted t → wanted < t.next → t.fewer ≤ limit_of p
    → reachable p t.next ≡ true
tally-next-reached p wanted t v of above l =
    (reachable-parts p t.next).1 (
      λ i i-in.
          let reaches = of.in-upper i i-in in
          le_trans (need-falls p i (v.shaped.block i i-in) wanted t.next (le_of_lt above) reaches) reaches,
      le_trans (le_of_eq (sym of.fewer-is)) l,
    )
