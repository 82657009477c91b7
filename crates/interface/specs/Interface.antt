-- What an exported function returns and leaves in the lent buffers, from what the model's call answers.
use Rattle.std.specs.Prelude.{Bool, cond, List, [], ◌∷◌, ◌++◌, ℕ, ltb, length, drop}
use Rattle.model.specs.Steps.{Step, none, relocate, exchange}
use Rattle.model.specs.Claims.{Reply, refused_by, checked, stepped, ran}
use Rattle.model.specs.Calls.{Answer, turned_back, answered, OutcomeOver, Report, RunReply}

-- The code returned, and every item at exit of the buffer that the call works on and of `out`.
pub record Effect (I : Type 0) : Type 0 where
  pub code : ℕ
  pub items : List I
  pub out : List ℕ

abbrev pub effect_of : {I : Type 0} → ℕ → List I → List ℕ → Effect I
effect_of code items out = record { code = code; items = items; out = out }

-- The code for an `out` that is shorter than what the call writes there, above all refusal numbers.
abbrev pub short_out : ℕ
short_out = 255

-- A list that begins with these numbers; what the old one held behind them stays.
unfoldable pub over : List ℕ → List ℕ → List ℕ
over numbers old = numbers ++ drop (length numbers) old

-- A refusal: its number, and `out` as it was. An answer: 0, and its numbers over `out`.
unfoldable pub replied : {I A : Type 0} → (A → List ℕ) → Answer A → List I → List ℕ → Effect I
replied numbers (turned_back code) items out = effect_of code items out
replied numbers (answered a) items out = effect_of 0 items (over (numbers a) out)

-- An `out` of fewer than `need` words is judged first of all, and nothing is written; otherwise the call's outcome.
unfoldable pub effect : {I A : Type 0} → ℕ → (A → List ℕ) → List I → List ℕ → OutcomeOver I A → Effect I
effect need numbers items out outcome =
    cond (ltb (length out) need) (effect_of short_out items out) (replied numbers outcome.answer outcome.items out)

-- The numbers of an answer: none.
abbrev pub no_numbers : ℕ → List ℕ
no_numbers n = []

-- Of a report: hottest load, coolest load, sum of loads, largest share.
unfoldable pub report_numbers : Report → List ℕ
report_numbers r = r.maximum ∷ r.minimum ∷ r.total ∷ r.top ∷ []

-- The kinds of step: 0 Move, 1 Swap, 2 RackMove, 3 RackSwap.
abbrev pub move_kind : Bool → ℕ
move_kind racks = cond racks 2 0

abbrev pub swap_kind : Bool → ℕ
swap_kind racks = cond racks 3 1

-- Of a step: 1 if there is one, its kind, m, n, i, j; 0 where there is none.
unfoldable pub step_numbers : Step → List ℕ
step_numbers none = 0 ∷ 0 ∷ 0 ∷ 0 ∷ 0 ∷ 0 ∷ []
step_numbers (relocate racks m n i) = 1 ∷ move_kind racks ∷ m ∷ n ∷ i ∷ 0 ∷ []
step_numbers (exchange racks m n i j) = 1 ∷ swap_kind racks ∷ m ∷ n ∷ i ∷ j ∷ []

-- Of a run: 1 for rest and 0 for spent, and the number of steps taken.
unfoldable pub run_numbers : RunReply → List ℕ
run_numbers r = cond r.rested 1 0 ∷ r.steps ∷ []

-- Of a listing the number of bytes written, of a conversion the length of the result, of a read the new count, of a popularity the popularity.
abbrev pub one_number : ℕ → List ℕ
one_number n = n ∷ []

-- Of a reply: its kind (0 refused, 1 checked, 2 a step, 3 a run), then its own numbers.
unfoldable pub reply_numbers : Reply → List ℕ
reply_numbers (refused_by code) = 0 ∷ code ∷ 0 ∷ 0 ∷ 0 ∷ 0 ∷ 0 ∷ []
reply_numbers checked = 1 ∷ 0 ∷ 0 ∷ 0 ∷ 0 ∷ 0 ∷ 0 ∷ []
reply_numbers (stepped step) = 2 ∷ step_numbers step
reply_numbers (ran r) = 3 ∷ cond r.rested 1 0 ∷ r.steps ∷ 0 ∷ 0 ∷ 0 ∷ 0 ∷ []
