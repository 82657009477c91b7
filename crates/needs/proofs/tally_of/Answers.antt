-- `needs::tally_of` meets its contract. The loop's invariant: the sum of the needs passed; below the smallest share of one copy less
-- they stay as they are, and there each block that has it needs one copy less.
-- Assumes nothing.
use mathlib.Core.Path.{◌≡◌, ap, ap₂, sym, subst, ◌∙◌}
use mathlib.Core.Logic.{inl, inr}
use Prim.Native.Nat.{ℕ, suc, ◌+◌, ◌-◌, ◌<◌, ◌≤◌}
use native.Mathlib.Nat.{le_refl, eq-or-lt_of_le, lt_of_not-le}
use native.Mathlib.Decide.{dec_lt}
use Rattle.std.proofs.Common.{Option, Some, None}
use native.Mathlib.Omega.{arith}
use borrow.Author.Count.{below_none, below_more}
use borrow.Author.Tests.{ltb-true, ltb-false}
use lib.ListN.{get_or}
use Rattle.order.specs.Sum.{sum}
use Rattle.order.proofs.Sums.{sum-zero, sum_step, sum-cong}
use Rattle.model.specs.Plan.{Plan, block_count, block_of, upper}
use Rattle.model.specs.Replication.{share, need}
use Rattle.theory.specs.Widths.{share_bound}
use Rattle.theory.specs.Refusal.{ValidBlock}
use Rattle.theory.proofs.Replication.{share-bound, need-same, need-less, need-less-above}
use mathlib.Core.List.{List}
use Rattle.cluster.specs.declared.Cluster.{Cluster}
use Rattle.cluster.specs.Blocks.{popularity_in, least_in, DemandsFit, DemandsOf}
use Rattle.cluster.proofs.Laws.{cluster-blocks, cluster-block, demands-popularity, demands-least}
use Rattle.needs.specs.declared.NextShare.{NextShare}
use Rattle.needs.specs.Needs.{fraction_share, next_share, next_blocks, Joined, NeedOf, TallyOf}
use Rattle.std.proofs.lemmas.List.{length-take-le}
use Rattle.needs.proofs.Laws.{need-of, block-here}
use Rattle.needs.proofs.tally_of.Invariants.{Stays, Passed}
use Rattle.needs.proofs.tally_of.Goals as goal
use Rattle.needs.proofs.tally_of.Goals.{then-count-least_of+in_default, else-count-least_of, in_default-via-in-None-1, in_default-via-in-Some+else-is_less}

module _ (p : Plan) (wanted i next blocks total : ℕ) (block : ValidBlock p i) (passed : Passed p wanted next blocks total i) where
  abbrev count : ℕ
  count = need p wanted i

  -- the share of one copy less
  abbrev less : ℕ
  less = share (block_of p i).popularity (count - 1)

  -- the next block, which needs as many copies at the next share, or fewer
  passed-step : (next' blocks' : ℕ) → next' ≤ next → Stays p wanted next' i → sum i (need p next') + need p next' i + blocks' ≡ total + count
      → Passed p wanted next' blocks' (total + count) (i + 1)
  passed-step next' blocks' down here fewer =
      record {
        total-is = ap (λ (x : ℕ). x + count) passed.total-is ∙ sym (sum_step i (need p wanted));
        stays = below_more _ i
            (λ k l. let before = passed.stays k l in (before.0, λ f from end. before.1 f from (omega arith)))
            here;
        fewer-is = ap (λ (x : ℕ). x + blocks') (sum_step i (need p next')) ∙ fewer;
      }

  module _ (in-upper : count ≤ upper p i) (from : wanted < next) where
    -- a block that has its least copies keeps them
    passed-least : count ≤ (block_of p i).min_replicas → Passed p wanted next blocks (total + count) (i + 1)
    passed-least few =
        let same : (f : ℕ) → wanted ≤ f → need p f i ≡ count =
        λ f l. need-same p i block wanted f l in-upper (λ more. absurd (omega arith))
        in
        passed-step next blocks (le_refl _) (in-upper, λ f l end. same f l)
        (omega (arith, same next (omega arith), passed.fewer-is))

    module _ (more : (block_of p i).min_replicas < count) where
      above : wanted < less
      above = need-less-above p i block wanted in-upper more

      -- up to the share of one copy less its need stays, and there it is one less
      same-below : (f : ℕ) → wanted ≤ f → f < less → need p f i ≡ count
      same-below f l below = need-same p i block wanted f l in-upper (λ m. below)

      one_less : need p less i ≡ count - 1
      one_less = need-less p i block wanted in-upper more

      -- that share, where it is the smallest
      passed-replaced : less < next → Passed p wanted less 1 (total + count) (i + 1)
      passed-replaced l =
          let before = sum-cong i (need p less) (need p wanted) (λ k k-in. (passed.stays k k-in).1 less (omega (arith, above)) l) in
          passed-step less 1 (omega arith) (in-upper, same-below)
          (omega (arith, before, one_less, passed.total-is))

      passed-tied : next ≡ less → Passed p wanted next (suc blocks) (total + count) (i + 1)
      passed-tied e =
          let here : need p next i ≡ count - 1 = rw e one_less in
          passed-step next (suc blocks) (le_refl _) (in-upper, λ f l end. same-below f l (rw e at end))
          (omega (arith, here, passed.fewer-is))

      passed-kept : next < less → Passed p wanted next blocks (total + count) (i + 1)
      passed-kept l =
          passed-step next blocks (le_refl _) (in-upper, λ f from end. same-below f from (omega arith))
          (omega (arith, same-below next (omega arith) l, passed.fewer-is))

      -- the next share with this one
      passed-more : (next' blocks' : ℕ) → Joined next blocks less next' blocks' → Passed p wanted next' blocks' (total + count) (i + 1)
      passed-more next' blocks' joined =
          elim (dec_lt next less) [
            | yes l ↦ let so = joined.kept l in rw (so.0, so.1) (passed-kept l)
            | no h ↦ let m : less ≤ next = omega (arith, lt_of_not-le h) in elim (eq-or-lt_of_le m) [
              | inl e ↦ let so = joined.tied e in rw (so.0, so.1) (passed-tied (sym e))
              | inr l ↦ let so = joined.replaced l in rw (so.0, so.1) (passed-replaced l)
            ]
          ]

-- it is above the figure where both are
joined-bounds : (next blocks share next' blocks' wanted : ℕ) → Joined next blocks share next' blocks' → wanted < next → wanted < share
    → (blocks' ≤ suc blocks) × (wanted < next')
joined-bounds next blocks share next' blocks' wanted joined above above' =
    elim (dec_lt next share) [
      | yes l ↦ let so = joined.kept l in (omega arith, omega arith)
      | no h ↦ let m : share ≤ next = omega (arith, lt_of_not-le h) in elim (eq-or-lt_of_le m) [
        | inl e ↦ let so = joined.tied e in (omega arith, omega arith)
        | inr l ↦ let so = joined.replaced l in (omega arith, omega arith)
      ]
    ]

-- where no block has a next share, all needs stay the same at any larger figure
tally-least : (p : Plan) (wanted total : ℕ) → Passed p wanted share_bound 0 total (block_count p) → wanted < share_bound
    → TallyOf p wanted record { total = total; next = wanted + 1; fewer = total }
tally-least p wanted total passed narrow =
    record {
      total-is = passed.total-is;
      in-upper = λ i l. (passed.stays i l).0;
      same = λ f from below i l. (passed.stays i l).1 f from (omega arith);
      fewer-is = elim (dec_lt (wanted + 1) share_bound) [
        | yes below ↦ passed.total-is ∙ sym (sum-cong (block_count p) _ _ (λ i l. (passed.stays i l).1 (wanted + 1) (omega arith) below))
        | no h ↦ let e : wanted + 1 ≡ share_bound = omega (arith, lt_of_not-le h) in rw e (omega (arith, passed.fewer-is))
      ];
    }

-- what a turn makes of the next share
module _ (c : Cluster) (demands : List ℕ) (wanted : ℕ) (fit : DemandsFit c demands) (i total : ℕ) (next : Option NextShare) (l : i < c.blocks)
    (count least : ℕ) (found : NeedOf (get_or demands i 0) wanted count) (low : least ≡ least_in (get_or demands i 0))
    (above : wanted < next_share next)
    (passed : (p : Plan) → DemandsOf p c demands → Passed p wanted (next_share next) (next_blocks next) total i)
  where
    abbrev IsNext : Option NextShare → Type 0
    IsNext new =
        (next_blocks new ≤ suc (next_blocks next))
        × (wanted < next_share new)
        × ((p : Plan) → DemandsOf p c demands → Passed p wanted (next_share new) (next_blocks new) (total + count) (i + 1))

    -- the count found is the block's need
    module _ (p : Plan) (of : DemandsOf p c demands) where
      block : ValidBlock p i
      block = cluster-block p c of.cluster i l

      need-here : count ≡ need p wanted i
      need-here = (need-of p c demands of i wanted count l found).0

      in-upper : need p wanted i ≤ upper p i
      in-upper = rw (← need-here) (need-of p c demands of i wanted count l found).1

      least-here : least ≡ (block_of p i).min_replicas
      least-here = low ∙ demands-least p c demands of i l

    -- a block that has its least copies
    turn-least : count ≤ least → IsNext next
    turn-least few = (
      omega arith,
      above,
      λ p of.
          subst (λ (k : ℕ). Passed p wanted (next_share next) (next_blocks next) (total + k) (i + 1))
          (sym (need-here p of))
          (passed-least p wanted i _ _ total (block p of) (passed p of) (in-upper p of) above
          (omega (arith, least-here p of, need-here p of))),
    )

    module _ (popularity : ℕ) (popular : popularity ≡ popularity_in (get_or demands i 0)) (more : least < count) where
      abbrev fewer : ℕ
      fewer = share popularity (count - 1)

      same : (p : Plan) → DemandsOf p c demands → fewer ≡ share (block_of p i).popularity (need p wanted i - 1)
      same p of = ap₂ (λ (P k : ℕ). share P (k - 1)) (popular ∙ demands-popularity p c demands of i l) (need-here p of)

      -- one share more: above the next one
      turn-kept : next_share next < fewer → IsNext next
      turn-kept kept = (
        omega arith,
        above,
        λ p of.
            subst (λ (k : ℕ). Passed p wanted (next_share next) (next_blocks next) (total + k) (i + 1))
            (sym (need-here p of))
            (passed-kept p wanted i _ _ total (block p of) (passed p of) (in-upper p of) above
            (omega (arith, least-here p of, need-here p of))
            (omega (arith, kept, same p of))),
      )

      -- and not above it
      turn-more : (new : NextShare) → Joined (next_share next) (next_blocks next) fewer (fraction_share new.share) new.blocks → IsNext (Some new)
      turn-more new is =
          let less-above = found.less-above (omega arith) in
          let less-is = ap (λ (P : ℕ). share P (count - 1)) popular in
          let bounds = joined-bounds _ _ _ _ _ wanted is above (omega (arith, less-above, less-is)) in (
            bounds.0,
            bounds.1,
            λ p of.
                subst (λ (k : ℕ). Passed p wanted (fraction_share new.share) new.blocks (total + k) (i + 1))
                (sym (need-here p of))
                (passed-more p wanted i _ _ total (block p of) (passed p of) (in-upper p of) above
                (omega (arith, least-here p of, need-here p of)) _ _
                (rw (← same p of) is)),
          )

pub scale_of-scale-requires : goal.scale_of-scale-requires
scale_of-scale-requires c = c.requires.wanted-narrow

pub loop-demand-init : goal.loop-demand-init
loop-demand-init c = (
  omega arith,
  omega arith,
  omega arith,
  c.requires.wanted-narrow,
  λ p of. record { total-is = sym (sum-zero _); stays = below_none _; fewer-is = omega (arith, sum-zero (need p share_bound)) },
)

pub needed-count-requires : goal.needed-count-requires
needed-count-requires c =
    let asked = c.requires in
    let here = block-here c.args.cluster c.args.demands.now c.requires.fit c.loop-demand.demand-index (omega arith) in
    let d = here.2 in
    record {
      in-range = d;
      wanted-narrow = asked.wanted-narrow;
      scale_of = c.scale_of-scale.ensures;
      most-within = rw here.1 (asked.most-within c.loop-demand.demand-index here.0);
    }

pub overflow_add-total : goal.overflow_add-total
overflow_add-total c =
    let here = block-here c.args.cluster c.args.demands.now c.requires.fit c.loop-demand.demand-index (omega arith) in
    let d = here.2 in
    omega (arith, c.needed-count.ensures.high, d.most-max, c.requires.fit.in-range.blocks-max)

pub next_with-requires : goal.next_with-requires
next_with-requires c =
    let inv = c.loop-demand.invariant in
    let here = block-here c.args.cluster c.args.demands.now c.requires.fit c.loop-demand.demand-index (omega arith) in
    let d = here.2 in
    let popular = c.popularity_of-popularity.ensures in
    let narrow : share c.popularity_of-popularity.result (c.needed-count.result - 1) < share_bound =
    share-bound _ (c.needed-count.result - 1) (rw popular d.popularity-narrow) in
    let kept : c.in_default.next ≡ c.loop-demand.next =
    elim c.in_default.branch [ in_default-via-in-None-1 w ↦ w.next-is | in_default-via-in-Some+else-is_less w ↦ w.next-is ∙ sym w.in-Some.is ] in
    let same-share : c.in_default.share ≡ (c.popularity_of-popularity.result, (c.needed-count.result - 1, tt)) =
    elim c.in_default.branch [ in_default-via-in-None-1 w ↦ w.share-is | in_default-via-in-Some+else-is_less w ↦ w.share-is ] in
    record {
      share-narrow = rw same-share narrow;
      share-max = elim c.in_default.branch [
        | in_default-via-in-None-1 w ↦ let none : c.loop-demand.next ≡ None = cc in rw (w.next-is, none, same-share) (omega (arith, narrow))
        | in_default-via-in-Some+else-is_less w ↦ rw (w.next-is, same-share) (ltb-false _ _ (sym w.is_less.ensures ∙ w.if-is_less.false))
      ];
      blocks-room = rw kept (omega (arith, inv.1, c.requires.fit.in-range.blocks-max));
    }

-- a block whose share is above the next one
pub loop-demand-preserved-then-count-least_of : goal.loop-demand-preserved-then-count-least_of
loop-demand-preserved-then-count-least_of c =
    let inv = c.loop-demand.invariant in
    let fit = c.requires.fit in
    let here = block-here c.args.cluster c.args.demands.now c.requires.fit c.loop-demand.demand-index (omega arith) in
    let d = here.2 in
    let found = rw here.1 at c.needed-count.ensures in
    let low = rw here.1 at c.least_of.ensures in
    let l = here.0 in
    let is = c.in-Some.is in
    let next = rw is at
    (turn-kept _ _ _ fit _ _ _ l _ _ found low inv.3 inv.4 _ (rw here.1 at c.popularity_of-popularity.ensures) c.if-count-least_of.true
    (rw is (ltb-true _ _ (sym c.is_less.ensures ∙ c.if-is_less.true)))) in
    let before = rw is at inv.1 in
    let before' = rw is at inv.2 in (
      omega (arith, found.high, d.most-max),
      omega (arith, before),
      omega (arith, before', found.low, d.least-pos),
      next.1,
      next.2,
    )

pub loop-demand-preserved : goal.loop-demand-preserved
loop-demand-preserved c =
    let inv = c.loop-demand.invariant in
    let fit = c.requires.fit in
    let here = block-here c.args.cluster c.args.demands.now c.requires.fit c.loop-demand.demand-index (omega arith) in
    let d = here.2 in
    let found = rw here.1 at c.needed-count.ensures in
    let low = rw here.1 at c.least_of.ensures in
    let l = here.0 in
    let next : IsNext c.args.cluster c.args.demands.now c.args.wanted fit c.loop-demand.demand-index c.loop-demand.total c.loop-demand.next l c.needed-count.result _ found low inv.3 inv.4 c.if-count-least_of.next =
    elim c.if-count-least_of.branch [
      | then-count-least_of+in_default w ↦
          let kept : w.in_default.next ≡ c.loop-demand.next =
          elim w.in_default.branch [ in_default-via-in-None-1 v ↦ v.next-is | in_default-via-in-Some+else-is_less v ↦ v.next-is ∙ sym v.in-Some.is ] in
          let same-share : w.in_default.share ≡ (w.popularity_of-popularity.result, (c.needed-count.result - 1, tt)) =
          elim w.in_default.branch [ in_default-via-in-None-1 v ↦ v.share-is | in_default-via-in-Some+else-is_less v ↦ v.share-is ] in
          rw w.next-is
          (turn-more _ _ _ fit _ _ _ l _ _ found low inv.3 inv.4 _ (rw here.1 at w.popularity_of-popularity.ensures) w.if-count-least_of.true
          w.next_with.result (rw (kept, same-share) at w.next_with.ensures))
      | else-count-least_of w ↦ rw w.next-is
          (turn-least _ _ _ fit _ _ _ l _ _ found low inv.3 inv.4 w.if-count-least_of.false)
    ]
    in (
      omega (arith, found.high, d.most-max),
      omega (arith, next.0, inv.1),
      omega (arith, next.0, inv.2, found.low, d.least-pos),
      next.1,
      next.2,
    )

pub returns-in_default : goal.returns-in_default
returns-in_default c =
    let inv = c.loop-demand.invariant in
    let blocks = length-take-le c.args.cluster.blocks c.args.demands.now c.requires.fit.room in
    let is = c.in_default.is in (
      record { total-max = omega arith; fewer-max = omega arith; next-above = omega arith },
      λ p of.
          let all : c.loop-demand.demand-index ≡ block_count p = omega (arith, cluster-blocks p _ of.cluster) in
          tally-least p c.args.wanted c.loop-demand.total (rw (is, all) at (inv.4 p of)) c.requires.wanted-narrow,
    )

pub returns : goal.returns
returns c =
    let inv = c.loop-demand.invariant in
    let blocks = length-take-le c.args.cluster.blocks c.args.demands.now c.requires.fit.room in
    let is = c.in-Some-next.is in
    let next-is = c.share_at.ensures in
    let above : c.args.wanted < fraction_share c.in-Some-next.next.share = rw is at inv.3 in (
      record { total-max = omega arith; fewer-max = omega arith; next-above = rw next-is above },
      λ p of.
          let all : c.loop-demand.demand-index ≡ block_count p = omega (arith, cluster-blocks p _ of.cluster) in
          let passed = rw (is, all) at (inv.4 p of) in
          record {
            total-is = passed.total-is;
            in-upper = λ i l. (passed.stays i l).0;
            same = λ f from below i l. (passed.stays i l).1 f from (rw next-is at below);
            fewer-is = rw next-is (omega (arith, passed.fewer-is));
          },
    )
