-- Profiles put in the place of demands, one after the other, at any counts that the plan allows.
-- Assumes nothing.
use mathlib.Core.Path.{◌≡◌, ap, ap₂, sym, ◌∙◌}
use mathlib.Core.List.{List}
use Prim.Native.Nat.{ℕ, ◌+◌, ◌<◌, ◌≤◌, max}
use native.Mathlib.Nat.{le_trans}
use native.Mathlib.Omega.{arith}
use lib.ListN.{length, get_or, set}
use Rattle.order.specs.Search.{largest}
use Rattle.order.specs.Table.{filled}
use Rattle.order.proofs.Extremes.{largest_step, largest-zero}
use Rattle.order.proofs.Tables.{filled_none, filled_more, get_d-filled}
use Rattle.model.specs.Plan.{Plan, block_count, block_of, upper}
use Rattle.model.specs.Replication.{share, largest_share}
use Rattle.theory.proofs.Plan.{upper-max}
use Rattle.theory.proofs.Replication.{share-whole}
use Rattle.cluster.specs.declared.Cluster.{Cluster}
use Rattle.cluster.specs.Blocks.{popularity_in, spread_asked, link_in, share_in, profile_of, DemandsFit, DemandsOf}
use Rattle.cluster.proofs.Laws.{cluster-blocks, cluster-block, demands-popularity, demands-spread, demands-link, profile_of-share, profile_of-link, linked-mate}
use Rattle.replication.specs.Choice.{profile_at, FilledAs}

-- The profiles of the first i blocks stand where their demands were, and `top` is the largest share of these.
pub record FilledTo (p : Plan) (count : ℕ → ℕ) (i : ℕ) (demands items : List ℕ) (top : ℕ) : Type 0 where
  pub are : items ≡ filled i (profile_of p count) demands
  pub top-is : top ≡ largest i (λ k. share (block_of p k).popularity (count k))

pub filled_to-none : (p : Plan) (count : ℕ → ℕ) (demands : List ℕ) → FilledTo p count 0 demands demands 0
filled_to-none p count demands = record { are = filled_none _ _; top-is = sym (largest-zero _) }

module _ (p : Plan) (count : ℕ → ℕ) (at_most : (i : ℕ) → i < block_count p → count i ≤ upper p i)
    (c : Cluster) (demands : List ℕ) (of : DemandsOf p c demands) where
  -- one block more
  pub filled_to-more : (i k top : ℕ) (items : List ℕ) → i < c.blocks → c.blocks ≤ length demands
      → get_or items i 0 ≡ get_or demands i 0 → k ≡ count i
      → FilledTo p count i demands items top
      → let profile = profile_at (get_or items i 0) k in FilledTo p count (i + 1) demands (set items i profile) (max top (share_in profile))
  unfolding profile_of
  filled_to-more i k top items l room same count-is to =
      let spread-is = ap spread_asked same ∙ demands-spread p c demands of i l in
      let link-is = ap link_in same ∙ demands-link p c demands of i l in
      let share-is = ap₂ share (ap popularity_in same ∙ demands-popularity p c demands of i l) count-is in
      let few = at_most i (rw (cluster-blocks p c of.cluster) at l) in
      let profile-is : profile_at (get_or items i 0) k ≡ profile_of p count i = cc in
      let held = profile_of-share p count i (cluster-block p c of.cluster i l) (le_trans few (upper-max p i)) in
      record {
        are = filled_more i _ _ _ _ to.are (omega arith) profile-is;
        top-is = ap₂ max to.top-is (ap share_in profile-is ∙ held) ∙ sym (largest_step i _);
      }

  -- all of them
  pub filled_to-all : (i top : ℕ) (items : List ℕ) → DemandsFit c demands → c.blocks ≤ length items → i ≡ c.blocks
      → FilledTo p count i demands items top → FilledAs p count c demands items top
  unfolding largest_share
  filled_to-all i top items fit room done to =
      let all : i ≡ block_count p = done ∙ cluster-blocks p c of.cluster in
      let passed = rw all at to in
      let at : (k : ℕ) → k < c.blocks → k < block_count p = λ k l. rw (cluster-blocks p c of.cluster) at l in
      let is : (k : ℕ) → k < c.blocks → get_or items k 0 ≡ profile_of p count k =
      λ k l. ap (λ (s : List ℕ). get_or s k 0) passed.are ∙ get_d-filled (block_count p) (profile_of p count) demands k 0 (at k l)
      in
      record {
        are = passed.are;
        top-is = passed.top-is;
        fit =
            record {
              in-range = fit.in-range;
              room = room;
              narrow = λ k l.
                  rw (is k l, profile_of-share p count k (cluster-block p c of.cluster k l) (le_trans (at_most k (at k l)) (upper-max p k)))
                  (omega
                  (arith, share-whole (block_of p k).popularity (count k), demands-popularity p c demands of k l, (fit.each k l).popularity-narrow));
              linked = λ k l.
                  rw (cluster-blocks p c of.cluster, is k l)
                  (linked-mate p (profile_of p count k) k (profile_of-link p count k) of.cluster.valid.shaped (at k l));
            };
      }
