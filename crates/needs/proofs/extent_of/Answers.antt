-- `needs::extent_of` meets its contract. The loop's invariant: the largest shares and the sums of the blocks passed.
-- Assumes nothing.
use mathlib.Core.Path.{◌≡◌, ap, ap₂, sym, ◌∙◌}
use Prim.Native.Nat.{ℕ, ◌+◌, ◌<◌, max}
use native.Mathlib.Omega.{arith}
use Rattle.order.proofs.Extremes.{largest_step, largest-zero}
use Rattle.order.proofs.Sums.{sum-zero, sum_step}
use Rattle.model.specs.Plan.{block_count, block_of, min_total}
use Rattle.model.specs.Replication.{share, largest_share}
use Rattle.theory.specs.Widths.{popularity_bound}
use Rattle.theory.proofs.Replication.{share-bound}
use Rattle.cluster.specs.Blocks.{popularity_in, least_in, most_in, DemandInRange}
use Rattle.cluster.proofs.Laws.{cluster-blocks, demands-popularity, demands-least, demands-most}
use Rattle.needs.specs.Fractions.{FractionFits}
use Rattle.std.proofs.lemmas.List.{length-take-le}
use Rattle.needs.proofs.Laws.{fraction-of, block-here}
use Rattle.needs.proofs.extent_of.Invariants.{most_share, least_share}
use Rattle.needs.proofs.extent_of.Goals as goal

-- a block's numbers are in their ranges
module _ (demand popularity count : ℕ) (d : DemandInRange demand) (popular : popularity ≡ popularity_in demand) where
  popularity-here : popularity < popularity_bound
  popularity-here = rw popular d.popularity-narrow

  -- with its least copies
  least-here : count ≡ least_in demand → FractionFits popularity count
  least-here e = fraction-of demand popularity count d popular (omega (arith, d.least-pos)) (omega (arith, d.least-most))

pub loop-demand-init : goal.loop-demand-init
loop-demand-init c =
    (omega arith, omega arith, omega arith, omega arith, λ p of. (sym (largest-zero _), sym (largest-zero _), sym (sum-zero _)))

pub overflow_add-total : goal.overflow_add-total
overflow_add-total c =
    let here = block-here c.args.cluster c.args.demands.now c.requires c.loop-demand.demand-index (omega arith) in
    let d = here.2 in
    omega (arith, popularity-here _ _ 0 d c.popularity_of-popularity.ensures, c.requires.in-range.blocks-max)

pub overflow_add-copies : goal.overflow_add-copies
overflow_add-copies c =
    let here = block-here c.args.cluster c.args.demands.now c.requires c.loop-demand.demand-index (omega arith) in
    let d = here.2 in
    let least = least-here _ _ _ d c.popularity_of-popularity.ensures c.least_of-count.ensures in
    omega (arith, least.count-max, c.requires.in-range.blocks-max)

pub loop-demand-preserved : goal.loop-demand-preserved
loop-demand-preserved c =
    let i = c.loop-demand.demand-index in
    let inv = c.loop-demand.invariant in
    let here = block-here c.args.cluster c.args.demands.now c.requires i (omega arith) in
    let l = here.0 in
    let d = here.2 in
    let popular = c.popularity_of-popularity.ensures in
    let popularity-max = popularity-here _ _ 0 d popular in
    let count-max = (least-here _ _ _ d popular c.least_of-count.ensures).count-max in
    let most = c.most_of-count in
    let least = c.least_of-count in
    let low-is = c.raised-low.ensures in
    let high_is = c.raised-high.ensures in (
      omega (arith, low-is, share-bound _ most.result popularity-max),
      omega (arith, high_is, share-bound _ least.result popularity-max),
      omega arith,
      omega arith,
      λ p of.
          let popularity-is = popular ∙ ap popularity_in here.1 ∙ demands-popularity p _ _ of i l in
          let least-is = least.ensures ∙ ap least_in here.1 ∙ demands-least p _ _ of i l in
          let most-is = most.ensures ∙ ap most_in here.1 ∙ demands-most p _ _ of i l in
          let before = inv.4 p of in (
            low-is ∙ ap₂ max before.0 (ap₂ share popularity-is most-is) ∙ sym (largest_step i (most_share p)),
            high_is ∙ ap₂ max before.1 (ap₂ share popularity-is least-is) ∙ sym (largest_step i (least_share p)),
            ap₂ ◌+◌ before.2 least-is ∙ sym (sum_step i (λ k. (block_of p k).min_replicas)),
          ),
    )

pub returns : goal.returns
unfolding largest_share min_total
returns c =
    let inv = c.loop-demand.invariant in
    let blocks = length-take-le c.args.cluster.blocks c.args.demands.now c.requires.room in (
      record {
        low_narrow = inv.0;
        high-narrow = inv.1;
        popularity-max = omega (arith);
      },
      λ p of.
          let all : c.loop-demand.demand-index ≡ block_count p = omega (arith, cluster-blocks p _ of.cluster) in
          let passed = rw all at (inv.4 p of) in
          record { low-is = passed.0; high_is = passed.1; copies-is = passed.2 },
    )
