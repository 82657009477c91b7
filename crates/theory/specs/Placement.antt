-- Document 01, "First placement": what is claimed of it, and of the test of a lawful placement.
use Rattle.std.specs.Prelude.{◌≡◌, true, List, ◌↔◌, ℕ}
use Rattle.model.specs.Plan.{Plan}
use Rattle.model.specs.Replication.{chosen}
use Rattle.model.specs.Placement.{count_of, first_placement, Feasible, is_feasible}
use Rattle.theory.specs.Refusal.{Valid}

-- This placement is lawful: counts as chosen, one copy per machine and block, spread met, capacity kept.
abbrev pub FirstFeasible : Type 0
FirstFeasible = (p : Plan) → Valid p → Feasible p (chosen p) (first_placement p)

-- The test says exactly that a placement is lawful at its own counts. Steps go by the test, claims and bounds by the record.
abbrev pub IsFeasibleExact : Type 0
IsFeasibleExact = (p : Plan) (words : List ℕ) → (is_feasible p words ≡ true) ↔ Feasible p (count_of p words) words
