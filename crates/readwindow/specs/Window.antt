-- What is counted of each entry of a list, and the checks of a read on numbers.
use Rattle.std.specs.Prelude.{Bool, ℕ, ◌+◌, cond, not, nat_lt, Option, None, Some, Result, Ok, Err}
use Rattle.model.specs.Refusal.{refuse_if}
use Rattle.model.specs.ReadLog.{age, window, gap_bound}
use Rattle.refusal.specs.declared.Refusal.{Refusal}
use Rattle.refusal.specs.declared.Refusal.TheVariants.{FullList}

-- 20 where there is a last tick and its age is 2 to the power 31 or more.
abbrev pub gap_code : ℕ → Option ℕ → ℕ
gap_code tick None = 0
gap_code tick (Some last) = refuse_if (not (nat_lt (age tick last) gap_bound)) 20 0

-- Whether an entry of this tick is in the window.
abbrev pub is_current : ℕ → ℕ → Bool
is_current now tick = nat_lt (age now tick) window

-- The number of entries kept, with the next one.
unfoldable pub kept_with : ℕ → ℕ → ℕ → ℕ
kept_with kept now tick = cond (is_current now tick) (kept + 1) kept

-- Of a read: one more than are kept, unless the list is full.
abbrev pub read_number : ℕ → ℕ → Result ℕ Refusal
read_number kept span = cond (nat_lt kept span) (Ok (kept + 1)) (Err FullList)
