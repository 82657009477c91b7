-- Refusals 10 and 11 turn back exactly the plans that have no lawful placement.
-- Assumes nothing.
use mathlib.Core.Path.{◌≡◌, ◌∙◌}
use mathlib.Core.Bool.{true, false}
use mathlib.Core.Logic.{◌⊎◌, inl, inr, ⊎_elim, ◌↔◌}
use Prim.Native.Nat.{ℕ, ◌<◌, ◌≤◌}
use native.Mathlib.Omega.{arith}
use borrow.Author.Tests.{ltb-true}
use lib.Dec.{ltb}
use Rattle.order.proofs.Booleans.{bool_cases}
use Rattle.order.proofs.Sums.{sum_mono}
use Rattle.model.specs.Plan.{Plan, places, block_count, block_of, min_total, plan_in}
use Rattle.model.specs.Replication.{copy_limit, FeasibleCounts}
use Rattle.model.specs.Refusal.{check10, check11, refusal}
use Rattle.model.specs.Placement.{Feasible}
use Rattle.theory.specs.Refusal.{Shaped}
use Rattle.theory.proofs.Refusal.{total_refusal, refusal-total, refusal-zero}
use Rattle.theory.proofs.Replication.{feasible_counts-least, copy_limit-valid}
use Rattle.theory.proofs.PlacementFirst.{laid_placement, laid_placement-feasible}
use Rattle.theorems.specs.Exact.{Infeasible, ExactRefusals}

-- Every block's least copies.
abbrev pub least_counts : Plan → ℕ → ℕ
least_counts p i = (block_of p i).min_replicas

-- a plan whose least copies are within the limit has a lawful placement, at its least copies
pub shaped-feasible : (p : Plan) → (shaped : Shaped p) → min_total p ≤ copy_limit p → Feasible p (least_counts p) (laid_placement p (least_counts p))
shaped-feasible p shaped within = laid_placement-feasible p shaped (least_counts p) (feasible_counts-least p shaped within)

-- lawful counts are within the limit, and so are the least copies
min-total-limit : (p : Plan) (count : ℕ → ℕ) → FeasibleCounts p count → min_total p ≤ copy_limit p
unfolding min_total
min-total-limit p count counts =
    let least = sum_mono (block_count p) (least_counts p) count counts.at_least in
    omega arith

-- rows 10 and 11 turn a plan back where its least copies are above the limit
pub total-cases : (p : Plan)
    → (((total_refusal p ≡ 10) ⊎ (total_refusal p ≡ 11)) × (copy_limit p < min_total p)) ⊎ (total_refusal p ≡ 0)
unfolding check10 check11 copy_limit
total-cases p = go (bool_cases (ltb p.budget (min_total p))) (bool_cases (ltb (places p) (min_total p)))
  where
    go : (ltb p.budget (min_total p) ≡ true) ⊎ (ltb p.budget (min_total p) ≡ false)
        → (ltb (places p) (min_total p) ≡ true) ⊎ (ltb (places p) (min_total p) ≡ false)
        → (((total_refusal p ≡ 10) ⊎ (total_refusal p ≡ 11)) × (copy_limit p < min_total p)) ⊎ (total_refusal p ≡ 0)
    go (inl a) b = inl (inl (rw a), (omega (arith, ltb-true)))
    go (inr a) (inl b) = inl (inr (rw (a, b)), (omega (arith, ltb-true)))
    go (inr a) (inr b) = inr (rw (a, b))

-- A code past 17 and 23 is that of rows 10 and 11. They give 10 or 11 exactly where the sum of least copies is above the budget or above
-- M × C, so above the smaller of the two. Lawful counts are at least the least copies and sum to at most that, so a plan that is
-- turned back has no lawful placement. A plan that is not turned back has one: its least copies are lawful counts, and laid on
-- consecutive positions they make a lawful placement.
pub exact-refusals : ExactRefusals
exact-refusals bytes past = go (total-cases p)
  where
    p : Plan
    p = plan_in bytes

    same : refusal bytes ≡ total_refusal p
    same = refusal-total bytes past

    go : (((total_refusal p ≡ 10) ⊎ (total_refusal p ≡ 11)) × (copy_limit p < min_total p)) ⊎ (total_refusal p ≡ 0)
        → ((refusal bytes ≡ 10) ⊎ (refusal bytes ≡ 11)) ↔ Infeasible p
    go (inl over) = (
      λ code count words feasible. let least = min-total-limit p count feasible.counts in omega arith,
      λ infeasible. rw same over.0,
    )
    go (inr none) = (
      λ code. absurd (⊎_elim (λ (e : refusal bytes ≡ 10). omega (arith, same)) (λ (e : refusal bytes ≡ 11). omega (arith, same)) code),
      λ infeasible. absurd (let valid = refusal-zero bytes (same ∙ none) in infeasible _ _ (shaped-feasible p valid.shaped (copy_limit-valid p valid))),
    )
