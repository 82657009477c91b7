-- What the program writes for what came of its input, and that this is what is printed for its whole input, however long.
use Rattle.std.specs.Prelude.{◌≡◌, List, [], ℕ, Option}
use Rattle.model.specs.Listing.{printed, step_limit}
use Rattle.input.specs.Input.{on_input, InputIs}

-- What is printed for some bytes, with the program's step limit.
abbrev pub printed_for : List ℕ → List ℕ
printed_for bytes = printed bytes step_limit

-- What is printed for the bytes that came; nothing where a read failed.
abbrev pub listed_output : Option (List ℕ) → List ℕ
listed_output came = on_input [] printed_for came

-- What is written is what is printed for the whole input.
abbrev pub ListsWhole : Type 0
ListsWhole = (came : Option (List ℕ)) (whole : List ℕ) → InputIs came whole → listed_output came ≡ printed whole step_limit
