-- `replication::fill_needed` meets its contract. The loop's invariant: as far as it has come, profiles at the chosen counts stand where the
-- demands were.
-- Assumes nothing.
use mathlib.Core.Path.{◌≡◌, refl, ◌∙◌}
use mathlib.Core.List.{List}
use Prim.Native.Nat.{ℕ, ◌<◌, ◌≤◌}
use native.Mathlib.Omega.{arith}
use lib.ListN.{get_or, length-set}
use lib.Seq.{get_or-set_other}
use Rattle.model.specs.Plan.{Plan, block_count, upper}
use Rattle.model.specs.Replication.{chosen}
use Rattle.theory.proofs.Replication.{chosen-counts}
use Rattle.cluster.specs.declared.Cluster.{Cluster}
use Rattle.cluster.specs.Blocks.{DemandsOf}
use Rattle.cluster.proofs.Laws.{cluster-blocks}
use Rattle.needs.specs.Needs.{FigureAsked, ScaleOf, NeedAsked}
use Rattle.needs.proofs.Laws.{need-of}
use Rattle.replication.proofs.Filling.{filled_to-none, filled_to-more, filled_to-all}
use Rattle.replication.proofs.fill_needed.Goals as goal

at_most : (p : Plan) (c : Cluster) (demands : List ℕ) → DemandsOf p c demands → (i : ℕ) → i < block_count p → chosen p i ≤ upper p i
at_most p c demands of = (chosen-counts p of.cluster.valid).feasible.at_most

-- where the demand is still in its place, it is in its ranges, and within the figure at its upper count
asked_here : (c : Cluster) (demands : List ℕ) (wanted scale : ℕ) → FigureAsked c demands wanted → ScaleOf wanted scale → (i item : ℕ) → i < c.blocks
    → item ≡ get_or demands i 0 → NeedAsked item wanted scale
asked_here c demands wanted scale asked scaled i item l kept =
    rw kept
    (record {
      in-range = asked.fit.each i l;
      wanted-narrow = asked.wanted-narrow;
      scale_of = scaled;
      most-within = asked.most-within i l;
    })

pub scale_of-scale-requires : goal.scale_of-scale-requires
scale_of-scale-requires c = c.requires.wanted-narrow

pub loop-i-init : goal.loop-i-init
loop-i-init c = (refl, λ k l. refl, λ p of figure. filled_to-none p _ _)

pub bounds-items-i : goal.bounds-items-i
bounds-items-i c = omega (arith, c.requires.fit.room)

pub needed-requires : goal.needed-requires
needed-requires c =
    let i = c.loop-i.i in
    asked_here _ _ _ _ c.requires c.scale_of-scale.ensures i _ (omega arith) (c.loop-i.invariant.1 i (omega arith))

pub profile_at-profile-requires : goal.profile_at-profile-requires
profile_at-profile-requires c =
    let i = c.loop-i.i in
    let asked = asked_here _ _ _ _ c.requires c.scale_of-scale.ensures i _ (omega arith) (c.loop-i.invariant.1 i (omega arith)) in
    let d = asked.in-range in
    let found = c.needed.ensures in
    record { in-range = d; count-pos = omega (arith, found.low, d.least-pos); count-max = found.high }

pub bounds-items-i-in-loop-i : goal.bounds-items-i-in-loop-i
bounds-items-i-in-loop-i c = omega (arith, c.requires.fit.room)

pub loop-i-preserved : goal.loop-i-preserved
loop-i-preserved c =
    let i = c.loop-i.i in
    let items = c.loop-i.items in
    let inv = c.loop-i.invariant in
    let l : i < c.args.cluster.blocks = omega arith in
    let kept = inv.1 i (omega arith) in (
      simp length-set inv.0,
      λ k h. get_or-set_other items i k c.profile_at-profile.result 0 (omega arith) ∙ inv.1 k (omega arith),
      λ p of figure.
          let needed = rw kept at c.needed.ensures in
          let count-is =
          (need-of p _ _ of i _ _ l needed).0 ∙ figure.counts-are i (omega (arith, cluster-blocks p _ of.cluster))
          in
          let more =
          filled_to-more p _ (at_most p _ _ of) _ _ of i c.needed.result c.loop-i.top items l
          c.requires.fit.room kept count-is (inv.2 p of figure)
          in
          rw (c.max-top.ensures, c.share_of-share.ensures, c.profile_at-profile.ensures) more,
    )

pub shape_of-items : goal.shape_of-items
shape_of-items c = c.loop-i.invariant.0

pub returns : goal.returns
returns c p of figure =
    filled_to-all p _ (at_most p _ _ of) _ _ of c.loop-i.i c.loop-i.top c.loop-i.items c.requires.fit
    (omega (arith, c.requires.fit.room)) (omega arith) (c.loop-i.invariant.2 p of figure)
