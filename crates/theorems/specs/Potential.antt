-- Document 01, "Steps and rest": each step lowers the sum of the squared loads by at least 2, so rest comes after at most half the
-- first such sum.
use Rattle.std.specs.Prelude.{◌≡◌, true, List, ℕ, ◌+◌, ◌*◌, ◌/◌, ◌≤◌}
use Rattle.model.specs.Plan.{Plan}
use Rattle.model.specs.Placement.{Feasible}
use Rattle.model.specs.Steps.{Step, after, run, potential}
use Rattle.theory.specs.Steps.{Admissible}

-- Every lawful step, not only the next one.
abbrev pub StepLowers : Type 0
StepLowers =
    (p : Plan) (count : ℕ → ℕ) (words : List ℕ) → Feasible p count words
    → (s : Step) → Admissible p words s → potential p (after words s) + 2 ≤ potential p words

-- A run takes at most half the first sum of steps, whatever its limit; and with half the sum for its limit, or more, it rests.
pub record RestComes (p : Plan) (words : List ℕ) : Type 0 where
  pub few : (limit : ℕ) → 2 * (run p limit words).steps ≤ potential p words
  pub rests : (limit : ℕ) → potential p words / 2 ≤ limit → (run p limit words).rested ≡ true

abbrev pub RunRests : Type 0
RunRests = (p : Plan) (count : ℕ → ℕ) (words : List ℕ) → Feasible p count words → RestComes p words
