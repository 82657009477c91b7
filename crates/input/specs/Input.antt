-- What came of standard input, and how this bears on the whole input, however long.
use Rattle.std.specs.Prelude.{◌≡◌, Bool, nat_lt, List, ℕ, ◌≤◌, length, take, Option, None, Some}
use Rattle.model.specs.Listing.{input_room}

-- Whether the answer of the read after so many bytes says that a read has failed: at the end of the input it gives nothing, and only after
-- a full buffer none is made.
unfoldable pub failed_by : ℕ → Option ℕ → Bool
failed_by size None = nat_lt size input_room
failed_by size (Some more) = nat_lt 0 more

-- What f gives for the bytes that came; `none` where a read failed.
unfoldable pub on_input : {A : Type 0} → A → (List ℕ → A) → Option (List ℕ) → A
on_input none f None = none
on_input none f (Some bytes) = f bytes

-- The whole input, by the bytes that came: it has no others, or it begins with so many as fill the buffer.
unfoldable pub InputIs : Option (List ℕ) → List ℕ → Type 0
InputIs None whole = ⊥
InputIs (Some bytes) whole = bytes ≡ take input_room whole

-- What lies behind a full buffer does not change what f gives.
abbrev pub ByFirstBytes : {A : Type 0} → (List ℕ → A) → Type 0
ByFirstBytes f = (whole : List ℕ) → input_room ≤ length whole → f (take input_room whole) ≡ f whole

-- Then what f gives for the bytes that came is what it gives for the whole input.
abbrev pub OnWhole : Type 1
OnWhole =
    (A : Type 0) (none : A) (f : List ℕ → A) → ByFirstBytes f
    → (came : Option (List ℕ)) (whole : List ℕ) → InputIs came whole → on_input none f came ≡ f whole
