-- `replication::best_figure` meets its contract. The loop's invariant: the upper end is reachable, and nothing below the lower end is.
-- Assumes nothing.
use mathlib.Core.Path.{◌≡◌, ap, sym, ◌∙◌}
use mathlib.Core.Bool.{true}
use mathlib.Core.List.{List}
use Prim.Native.Nat.{ℕ, ◌*◌, ◌≤◌}
use native.Mathlib.Nat.{le_trans, le_of_eq}
use native.Mathlib.Omega.{arith}
use Rattle.order.specs.Sum.{sum}
use Rattle.order.proofs.Booleans.{not_so}
use Rattle.order.proofs.Sums.{sum-cong}
use Rattle.model.specs.Plan.{Plan, block_count, block_of, min_total}
use Rattle.model.specs.Refusal.{max_machines, max_capacity}
use Rattle.model.specs.Replication.{largest_share, need, reachable, chosen}
use Rattle.theory.specs.Refusal.{Valid}
use Rattle.theory.proofs.Replication.{copy_limit-max, feasible_counts-valid, largest_share-term, need-enough, reachable-counts, reachable-upper, figure-by-bisection, figure-full}
use Rattle.cluster.specs.declared.Cluster.{Cluster}
use Rattle.replication.specs.Choice.{ChooseAsked}
use Rattle.replication.proofs.Laws.{most-within, tally-reached}
use Rattle.replication.proofs.best_figure.Goals as goal

-- the limit of a plan is at most its places, and at least its least copies
module _ (c : Cluster) (demands : List ℕ) (allowed : ℕ) (asked : ChooseAsked c demands allowed) where
  limit-here : allowed ≤ max_machines * max_capacity
  limit-here =
      rw asked.limited.limit_is (copy_limit-max asked.plan asked.limited.demands-of.cluster.valid.shaped)

  least-here : min_total asked.plan ≤ allowed
  unfolding min_total
  least-here = rw asked.limited.limit_is (feasible_counts-valid asked.plan asked.limited.demands-of.cluster.valid).in-limit

-- the largest share at the least copies is reachable, and the least copies are the needs there
module _ (p : Plan) (valid : Valid p) (high : ℕ) (is : high ≡ largest_share p (λ i. (block_of p i).min_replicas)) where
  high-reached : reachable p high ≡ true
  high-reached = reachable-counts p valid high (λ i. (block_of p i).min_replicas) (feasible_counts-valid p valid) (le_of_eq (sym is))

  high-needs : sum (block_count p) (need p high) ≡ min_total p
  unfolding min_total
  high-needs =
      sum-cong (block_count p) _ _
      (λ i l.
      need-enough p i (valid.shaped.block i l) high
      (le_trans (largest_share-term p (λ k. (block_of p k).min_replicas) i l) (le_of_eq (sym is))))

pub extent_of-extent-requires : goal.extent_of-extent-requires
extent_of-extent-requires c = c.requires.fit

pub returns-then-extent-allowed : goal.returns-then-extent-allowed
unfolding chosen
returns-then-extent-allowed c =
    let extent = c.extent_of-extent.ensures in (
      λ p of.
          let valid = of.demands-of.cluster.valid in
          let numbers = extent.1 p of.demands-of in
          let reached = high-reached p valid _ numbers.high_is in
          let full = high-needs p valid _ numbers.high_is ∙ sym numbers.copies-is ∙ c.if-extent-allowed.true ∙ of.limit_is in
          record { reached = reached; counts-are = figure-full p valid _ reached full },
      extent.0.high-narrow,
    )

pub bracket_of-bracket-requires : goal.bracket_of-bracket-requires
bracket_of-bracket-requires c =
    let asked = c.requires in
    let fits = c.extent_of-extent.ensures.0 in
    let of = c.extent_of-extent.ensures.1 asked.plan asked.limited.demands-of in
    let blocks-max = asked.fit.in-range.blocks-max in
    record {
      low_narrow = fits.low_narrow;
      high-narrow = fits.high-narrow;
      popularity-max = omega (arith, fits.popularity-max);
      copies-max = rw of.copies-is (least-here _ _ _ asked);
      limit-max = limit-here _ _ _ asked;
      blocks-max = blocks-max;
    }

pub loop-bracket-init : goal.loop-bracket-init
loop-bracket-init c =
    let bracket = c.bracket_of-bracket.ensures in (
      bracket.2,
      λ p of.
          let valid = of.demands-of.cluster.valid in
          let extent = c.extent_of-extent.ensures.1 p of.demands-of in
          let low-is = bracket.0 ∙ extent.low-is in
          record {
            low-min = le_of_eq (sym low-is);
            unreached = λ f l. not_so _ (λ e. omega (arith, reachable-upper p valid f e, low-is));
            reached = high-reached p valid _ (bracket.1 ∙ extent.high_is);
          },
    )

pub probe-wanted-requires : goal.probe-wanted-requires
probe-wanted-requires c = (c.loop-bracket.invariant.0, c.loop-bracket-test.true)

pub tally_of-tally-requires : goal.tally_of-tally-requires
tally_of-tally-requires c =
    let asked = c.requires in
    let inv = c.loop-bracket.invariant in
    record {
      fit = asked.fit;
      wanted-narrow = omega (arith, c.probe-wanted.ensures.1, inv.0.high-narrow);
      most-within = most-within asked.plan _ _ asked.limited.demands-of _
          (le_trans (inv.1 asked.plan asked.limited).low-min c.probe-wanted.ensures.0);
    }

pub returns-then-tally-allowed : goal.returns-then-tally-allowed
unfolding chosen
returns-then-tally-allowed c =
    let probe = c.probe-wanted.ensures in (
      λ p of.
          let tally = c.tally_of-tally.ensures.1 p of.demands-of in
          let full = c.if-tally-allowed.true ∙ of.limit_is in
          let reached = tally-reached p _ _ tally (le_of_eq full) in
          record {
            reached = reached;
            counts-are = figure-full p of.demands-of.cluster.valid _ reached (sym tally.total-is ∙ full);
          },
      omega (arith, probe.1, c.loop-bracket.invariant.0.high-narrow),
    )

pub narrowed-bracket-requires : goal.narrowed-bracket-requires
narrowed-bracket-requires c =
    let asked = c.requires in
    let probe = c.probe-wanted.ensures in
    let tally = c.tally_of-tally.ensures.0 in
    record {
      fits = c.loop-bracket.invariant.0;
      low-max = probe.0;
      wanted-less = probe.1;
      next-above = tally.next-above;
      fewer-max = omega (arith, tally.fewer-max, tally.total-max, asked.fit.in-range.blocks-max);
      limit-max = limit-here _ _ _ asked;
    }

pub loop-bracket-smaller : goal.loop-bracket-smaller
loop-bracket-smaller c = c.narrowed-bracket.ensures.less

pub loop-bracket-preserved : goal.loop-bracket-preserved
loop-bracket-preserved c =
    let inv = c.loop-bracket.invariant in (
      c.narrowed-bracket.ensures.fits,
      λ p of.
          c.narrowed-bracket.ensures.of p of.demands-of.cluster.valid of.limit_is
          (c.tally_of-tally.ensures.1 p of.demands-of) (inv.1 p of),
    )

pub returns : goal.returns
unfolding chosen
returns c =
    let inv = c.loop-bracket.invariant in (
      λ p of.
          let at = inv.1 p of in
          let figure-is = figure-by-bisection p of.demands-of.cluster.valid _ at.reached (λ f l. at.unreached f (omega arith)) in
          record { reached = at.reached; counts-are = λ i l. ap (λ (f : ℕ). need p f i) (sym figure-is) },
      inv.0.high-narrow,
    )
