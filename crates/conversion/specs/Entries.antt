-- The entry's answer and the lent buffer at exit, as the model's outcome.
use Rattle.std.specs.Prelude.{List, ℕ, Result, Ok, Err}
use Rattle.model.specs.Calls.{Outcome, answered, refuse}
use Rattle.refusal.specs.declared.Refusal.{Refusal}
use Rattle.refusal.specs.Rows.{number_of}

unfoldable pub convert_outcome : Result ℕ Refusal → List ℕ → Outcome ℕ
convert_outcome (Err refusal) buffer = refuse (number_of refusal) buffer
convert_outcome (Ok size) buffer = record { answer = answered size; items = buffer }
