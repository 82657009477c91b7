-- `replication::fill_held` meets its contract. The loop's invariant: as far as it has come, profiles at the counts held stand where the
-- demands were.
-- Assumes nothing.
use mathlib.Core.Path.{◌≡◌, refl, ◌∙◌}
use Prim.Native.Nat.{ℕ, ◌<◌, ◌≤◌}
use native.Mathlib.Omega.{arith}
use lib.ListN.{get_or, length-set}
use lib.Seq.{get_or-set_other}
use Rattle.model.specs.Plan.{Plan, block_count, upper}
use Rattle.model.specs.Placement.{word_of, count_of}
use mathlib.Core.List.{List}
use Rattle.cluster.specs.declared.Cluster.{Cluster}
use Rattle.cluster.specs.Blocks.{DemandsOf, copies_in, CountsFit}
use Rattle.cluster.proofs.Laws.{cluster-blocks, counts-held, counts-upper}
use Rattle.replication.specs.Choice.{ProfileAsked}
use Rattle.replication.proofs.Filling.{filled_to-none, filled_to-more, filled_to-all}
use Rattle.replication.proofs.fill_held.Goals as goal

module _ (c : Cluster) (words demands : List ℕ) (asked : CountsFit c words demands) where
  -- the counts held are at most the upper counts
  at_most : (p : Plan) → DemandsOf p c demands → (i : ℕ) → i < block_count p → count_of p words i ≤ upper p i
  at_most p of i l = counts-upper p c words demands of asked i (rw (cluster-blocks p c of.cluster) l)

  -- where the demand is still in its place, the count is one that it allows
  asked_here : (i item count : ℕ) → i < c.blocks → item ≡ get_or demands i 0 → count ≡ copies_in (word_of words i) → ProfileAsked item count
  asked_here i item count l kept is =
      let d = asked.demands-fit.each i l in
      rw (kept, is)
      (record { in-range = d; count-pos = omega (arith, d.least-pos, asked.at_least i l); count-max = asked.at_most i l })

pub loop-i-init : goal.loop-i-init
loop-i-init c = (refl, λ k l. refl, λ p of. filled_to-none p _ _)

pub bounds-items-i : goal.bounds-items-i
bounds-items-i c = omega (arith, c.requires.demands-fit.room)

pub bounds-words-i : goal.bounds-words-i
bounds-words-i c = omega (arith, c.requires.word_room)

pub profile_at-held-requires : goal.profile_at-held-requires
profile_at-held-requires c =
    let i = c.loop-i.i in
    asked_here _ _ _ c.requires i _ _ (omega arith) (c.loop-i.invariant.1 i (omega arith)) c.count_set.ensures

pub bounds-items-i-in-loop-i : goal.bounds-items-i-in-loop-i
bounds-items-i-in-loop-i c = omega (arith, c.requires.demands-fit.room)

pub loop-i-preserved : goal.loop-i-preserved
loop-i-preserved c =
    let i = c.loop-i.i in
    let items = c.loop-i.items in
    let inv = c.loop-i.invariant in
    let l : i < c.args.cluster.blocks = omega arith in (
      simp length-set inv.0,
      λ k h. get_or-set_other items i k c.profile_at-held.result 0 (omega arith) ∙ inv.1 k (omega arith),
      λ p of.
          let count-is = c.count_set.ensures ∙ counts-held p _ _ _ of c.requires i l in
          let more =
          filled_to-more p _ (at_most _ _ _ c.requires p of) _ _ of i c.count_set.result c.loop-i.top items l
          c.requires.demands-fit.room (inv.1 i (omega arith)) count-is (inv.2 p of)
          in
          rw (c.max-top.ensures, c.share_of.ensures, c.profile_at-held.ensures) more,
    )

pub shape_of-items : goal.shape_of-items
shape_of-items c = c.loop-i.invariant.0

pub returns : goal.returns
returns c p of =
    filled_to-all p _ (at_most _ _ _ c.requires p of) _ _ of c.loop-i.i c.loop-i.top c.loop-i.items c.requires.demands-fit
    (omega (arith, c.requires.demands-fit.room)) (omega arith) (c.loop-i.invariant.2 p of)
