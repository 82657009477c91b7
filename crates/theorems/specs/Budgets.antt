-- Document 02, U7: a budget that cannot be used. Row 23 is of version 4 alone, and it leaves row 11 nothing there.
use Rattle.std.specs.Prelude.{◌≡◌, List, [], ◌∷◌, ◌↔◌, ℕ, ◌<◌, ◌≤◌, set}
use Rattle.model.specs.Plan.{Plan, places, min_total, version_in, plan_in}
use Rattle.model.specs.Refusal.{check23, check10, check11, refusal, judge, refused, accepted}
use Rattle.model.specs.Replication.{copy_limit}
use Rattle.model.specs.Calls.{counts_call}
use Rattle.theory.specs.Refusal.{PastRow17}
use Rattle.theorems.specs.Trials.{gives}
use Rattle.theorems.specs.Exact.{Infeasible}

-- Wherever 23 and 10 are tested of a version 4 plan, 11 can be left out: the least copies are within the budget, and that is within M × C.
abbrev pub ElevenIdle : Type 0
ElevenIdle =
    (version room budget total later : ℕ) → 4 ≤ version
    → check23 version room budget (check10 budget total (check11 room total later))
    ≡ check23 version room budget (check10 budget total later)

-- What 23 says of the plan that the bytes hold, and what it leaves of an accepted one.
pub record BudgetLaws (bytes : List ℕ) : Type 0 where
  -- past 17, 23 is given exactly for a version 4 budget above M × C: earlier versions are still read
  pub row23-exact : PastRow17 (refusal bytes) → (refusal bytes ≡ 23) ↔ ((4 ≤ version_in bytes) × (places (plan_in bytes) < (plan_in bytes).budget))
  -- it does not mean that no lawful placement exists: one does where M × C has room for the least copies
  pub row23-open : refusal bytes ≡ 23 → min_total (plan_in bytes) ≤ places (plan_in bytes) → Infeasible (plan_in bytes) → ⊥
  -- a version 4 plan is never refused 11
  pub never-eleven : 4 ≤ version_in bytes → refusal bytes ≡ 11 → ⊥
  -- an accepted version 4 plan may use its whole budget
  pub whole : (p : Plan) → judge bytes ≡ accepted p → 4 ≤ p.version → copy_limit p ≡ p.budget

abbrev pub Budgets : Type 0
Budgets = (bytes : List ℕ) → BudgetLaws bytes

-- R 2, S 1, F 2, C 1, budget 2; P 4 and 1, least copies and spread 1. The budget is at 10 to 13, the least copies are at 20 and 27, the
-- pair bytes at 22 and 29; and the same in version 3, with the budget at 9 to 12 and the least copies at 19 and 26.
unfoldable pub plan-whole : List ℕ
plan-whole =
    0x42 ∷ 0x50 ∷ 0x4C ∷ 0 ∷ 4 ∷ 2 ∷ 1 ∷ 2 ∷ 0 ∷ 1 ∷ 0 ∷ 0 ∷ 0 ∷ 2 ∷ 0 ∷ 2
    ∷ 0 ∷ 0 ∷ 0 ∷ 4 ∷ 1 ∷ 1 ∷ 0
    ∷ 0 ∷ 0 ∷ 0 ∷ 1 ∷ 1 ∷ 1 ∷ 0
    ∷ []

unfoldable pub wide-whole : List ℕ
wide-whole =
    0x42 ∷ 0x50 ∷ 0x4C ∷ 0 ∷ 3 ∷ 2 ∷ 1 ∷ 0 ∷ 1 ∷ 0 ∷ 0 ∷ 0 ∷ 2 ∷ 0 ∷ 2
    ∷ 0 ∷ 0 ∷ 0 ∷ 4 ∷ 1 ∷ 1 ∷ 0
    ∷ 0 ∷ 0 ∷ 0 ∷ 1 ∷ 1 ∷ 1 ∷ 0
    ∷ []

-- Another budget below 256, and least copies 2 of both blocks, four in all, which M × C has no room for.
abbrev pub budgeted : ℕ → List ℕ
budgeted budget = set plan-whole 13 budget

abbrev pub wide-budgeted : ℕ → List ℕ
wide-budgeted budget = set wide-whole 12 budget

abbrev pub crowded : ℕ → List ℕ
crowded budget = set (set (budgeted budget) 20 2) 27 2

abbrev pub wide-crowded : ℕ → List ℕ
wide-crowded budget = set (set (wide-budgeted budget) 19 2) 26 2

pub record BudgetExamples : Type 0 where
  -- M × C itself is accepted, one copy more is refused, and so are as many as the field holds
  pub at : judge plan-whole ≡ accepted (plan_in plan-whole)
  pub one-above : judge (budgeted 3) ≡ refused 23
  pub far-above : judge (set (set (set (budgeted 255) 12 255) 11 255) 10 255) ≡ refused 23
  -- 17 comes before 23, and 10 after it
  pub after-seventeen : judge (set (budgeted 3) 22 2) ≡ refused 17
  pub before-ten : judge (crowded 3) ≡ refused 23
  pub ten : judge (crowded 2) ≡ refused 10
  -- where version 3 gives 11, version 4 gives 23
  pub before-eleven : judge (crowded 4) ≡ refused 23
  pub wide-eleven : judge (wide-crowded 4) ≡ refused 11
  pub wide-ten : judge (wide-crowded 3) ≡ refused 10
  -- the same plan in version 3 is accepted, with the smaller of budget and M × C: three copies would be two of block 0 and one of block 1
  pub wide-above : judge (wide-budgeted 3) ≡ accepted (plan_in (wide-budgeted 3))
  pub wide-counts : counts_call (wide-budgeted 3) (0 ∷ 0 ∷ []) ≡ gives 10080 (1 ∷ 1 ∷ [])
