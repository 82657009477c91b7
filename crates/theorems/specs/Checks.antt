-- The whole order of the checks, `checks`, is what the calls go by, and it passes exactly the lawful placements.
use Rattle.std.specs.Prelude.{◌≡◌, List, ◌↔◌, ℕ, ◌≤◌, length}
use Rattle.model.specs.Plan.{Plan, block_count, plan_in}
use Rattle.model.specs.Refusal.{or_else, refusal, judge, accepted}
use Rattle.model.specs.Replication.{chosen}
use Rattle.model.specs.Placement.{Feasible}
use Rattle.model.specs.Calls.{Outcome, unless, placement_refusal, on_placement}
use Rattle.model.specs.Checks.{checks}

-- A plan's own rows come first: judging a plan makes them alone.
abbrev pub PlanRowsFirst : Type 0
PlanRowsFirst = (bytes words : List ℕ) → checks bytes words ≡ or_else (refusal bytes) (placement_refusal words (plan_in bytes))

-- Every call on a placement (check, report, step, run) is refused by the first row that holds, and made where none does.
abbrev pub CallsInOrder : Type 1
CallsInOrder =
    (A : Type 0) (bytes words : List ℕ) (call : Plan → Outcome A)
    → on_placement bytes words call ≡ unless (checks bytes words) words (call (plan_in bytes))

-- A placement of an accepted plan passes all rows exactly if it is lawful with the chosen counts, which is what the claim of demand 3
-- starts from: no lawful placement is turned back.
abbrev pub PassedLawful : Type 0
PassedLawful =
    (bytes : List ℕ) (p : Plan) → judge bytes ≡ accepted p
    → (words : List ℕ) → (checks bytes words ≡ 0) ↔ Feasible p (chosen p) words

-- Row 12 is in it: a lawful placement has at least B words, since every block has a copy and a word that is not lent counts as 0.
abbrev pub LawfulLent : Type 0
LawfulLent =
    (bytes : List ℕ) (p : Plan) → judge bytes ≡ accepted p
    → (count : ℕ → ℕ) (words : List ℕ) → Feasible p count words → block_count p ≤ length words
