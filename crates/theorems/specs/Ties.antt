-- Document 01, "Where document 001 may not be followed": steps that lower the maximum stop at ties. Three machines in one rack, with
-- six, six and none of twelve equal one-copy blocks: no single step lowers six, yet the best is four, and a run goes on to it.
use Rattle.std.specs.Prelude.{◌≡◌, List, [], ◌∷◌, ◌++◌, ℕ, ◌*◌, ◌≤◌, replicate}
use Rattle.order.specs.Table.{table}
use Rattle.model.specs.Plan.{Plan}
use Rattle.model.specs.Refusal.{judge, accepted}
use Rattle.model.specs.Replication.{unit}
use Rattle.model.specs.Placement.{Feasible, used, max_load_of}
use Rattle.model.specs.Steps.{Step, Move, after}
use Rattle.model.specs.Calls.{check_call, step_call, run_call}
use Rattle.theory.specs.Steps.{Admissible}
use Rattle.theorems.specs.Trials.{gives, rest}

-- R 1, S 3, C 12, budget 12, twelve blocks with P 1, least and spread 1; and the plan that these bytes hold
unfoldable pub plan-tied : List ℕ
plan-tied =
    0x42 ∷ 0x50 ∷ 0x4C ∷ 0 ∷ 1 ∷ 1 ∷ 3 ∷ 0 ∷ 12 ∷ 0 ∷ 0 ∷ 0 ∷ 12 ∷ 0 ∷ 12
    ∷ 0 ∷ 0 ∷ 1 ∷ 1 ∷ 1 ∷ 0 ∷ 0 ∷ 1 ∷ 1 ∷ 1 ∷ 0 ∷ 0 ∷ 1 ∷ 1 ∷ 1
    ∷ 0 ∷ 0 ∷ 1 ∷ 1 ∷ 1 ∷ 0 ∷ 0 ∷ 1 ∷ 1 ∷ 1 ∷ 0 ∷ 0 ∷ 1 ∷ 1 ∷ 1
    ∷ 0 ∷ 0 ∷ 1 ∷ 1 ∷ 1 ∷ 0 ∷ 0 ∷ 1 ∷ 1 ∷ 1 ∷ 0 ∷ 0 ∷ 1 ∷ 1 ∷ 1
    ∷ 0 ∷ 0 ∷ 1 ∷ 1 ∷ 1 ∷ 0 ∷ 0 ∷ 1 ∷ 1 ∷ 1 ∷ 0 ∷ 0 ∷ 1 ∷ 1 ∷ 1
    ∷ []

abbrev pub tied : Plan
tied =
    record {
      version = 1;
      racks = 1;
      rack_size = 3;
      feeds = 1;
      capacity = 12;
      budget = 12;
      blocks = replicate 12 (record { popularity = 1; min_replicas = 1; min_domains = 1; pair_byte = 0 });
    }

-- Six blocks on machine 0, six on machine 1; the words after one step; and those at rest.
abbrev pub sixes : List ℕ
sixes = replicate 6 1 ++ replicate 6 2

abbrev pub stepped : List ℕ
stepped = 4 ∷ replicate 5 1 ++ replicate 6 2

abbrev pub fours : List ℕ
fours = 4 ∷ 4 ∷ 4 ∷ 1 ∷ 1 ∷ 1 ∷ 1 ∷ 4 ∷ 2 ∷ 2 ∷ 2 ∷ 2 ∷ []

pub record Ties : Type 0 where
  pub accepts : judge plan-tied ≡ accepted tied
  pub passes : check_call plan-tied sixes ≡ gives 12 sixes
  pub six-six-none : table 3 (used tied sixes) ≡ 6 ∷ 6 ∷ 0 ∷ []
  -- a share is 2520 units, so the hottest load is six of them
  pub highest : max_load_of tied sixes ≡ 6 * unit
  -- no lawful step lowers it, though one is left
  pub none-lowers : (s : Step) → Admissible tied sixes s → max_load_of tied sixes ≤ max_load_of tied (after sixes s)
  pub one_left : step_call plan-tied sixes ≡ gives (Move 0 0 2) stepped
  -- no lawful placement at any lawful counts is below four
  pub best : (count : ℕ → ℕ) (words : List ℕ) → Feasible tied count words → 4 * unit ≤ max_load_of tied words
  -- and a run that may take five steps or more reaches four
  pub rests : (limit : ℕ) → 5 ≤ limit → run_call plan-tied sixes limit ≡ gives (rest 5) fours
  pub reached : max_load_of tied fours ≡ 4 * unit
