-- Document 01, "First placement", and document 02, U1 and U7: refusals 10 and 11 are exact. Of the plans past 17 and 23 they turn back
-- those that have no lawful placement.
use Rattle.std.specs.Prelude.{◌≡◌, List, ◌⊎◌, ◌↔◌, ℕ}
use Rattle.model.specs.Plan.{Plan, plan_in}
use Rattle.model.specs.Refusal.{refusal}
use Rattle.model.specs.Placement.{Feasible}
use Rattle.theory.specs.Refusal.{PastRow23}

-- No placement is lawful, at whatever counts.
abbrev pub Infeasible : Plan → Type 0
Infeasible p = (count : ℕ → ℕ) (words : List ℕ) → Feasible p count words → ⊥

abbrev pub ExactRefusals : Type 0
ExactRefusals =
    (bytes : List ℕ) → PastRow23 (refusal bytes)
    → ((refusal bytes ≡ 10) ⊎ (refusal bytes ≡ 11)) ↔ Infeasible (plan_in bytes)
