-- A block looked for in a plan, and what the calls on reads are refused for or work on.
use Rattle.std.specs.Prelude.{cond, ℕ, ltb, eqb, Option, Result, Ok, Err}
use Rattle.model.specs.Plan.{Plan, block_count}
use Rattle.model.specs.Refusal.{Verdict, refused, accepted}
use Rattle.model.specs.Calls.{Answer, turned_back, answered}
use Rattle.model.specs.ReadLog.{standing}
use Rattle.refusal.specs.declared.Refusal.{Refusal}
use Rattle.refusal.specs.Rows.{number_of}
use Rattle.cluster.specs.Blocks.{mate}
use Rattle.readwindow.specs.Window.{gap_code}
use Rattle.readlookup.specs.declared.Searched.{Searched}

-- What a function answers, as the model's answer.
abbrev pub answer_of : {A : Type 0} → Result A Refusal → Answer A
answer_of (Ok a) = answered a
answer_of (Err refusal) = turned_back (number_of refusal)

-- A block looked for: 19 where it is not in the plan, and its partner, or itself.
unfoldable pub sought_in : Plan → ℕ → Answer ℕ
sought_in p block = cond (ltb block (block_count p)) (answered (mate p block)) (turned_back 19)

unfoldable pub sought : Verdict → ℕ → Answer ℕ
sought (refused code) block = turned_back code
sought (accepted p) block = sought_in p block

-- The records searched for a block, and those searched for its partner: none where it has none.
abbrev pub searched_with : ℕ → ℕ → Answer ℕ → Answer Searched
searched_with block own (turned_back code) = turned_back code
searched_with block own (answered mate) = answered (record { own = own; mate = mate; other = cond (eqb mate block) 0 own })

unfoldable pub searched : Verdict → ℕ → ℕ → ℕ → Answer Searched
searched verdict block lent count = searched_with block (standing lent count) (sought verdict block)

-- The code of a read before the dropping: the code of the block looked for, else check 20's.
abbrev pub code_with : Answer ℕ → ℕ → ℕ
code_with (turned_back code) later = code
code_with (answered mate) later = later

unfoldable pub read_code : Verdict → ℕ → ℕ → Option ℕ → ℕ
read_code verdict block tick last = code_with (sought verdict block) (gap_code tick last)
