-- The entries' answers and the lent text at exit, as the model's outcome.
use Rattle.std.specs.Prelude.{List, ℕ, Result, Ok, Err}
use Rattle.model.specs.Calls.{Outcome, answered, refuse}
use Rattle.refusal.specs.declared.Refusal.{Refusal}
use Rattle.refusal.specs.Rows.{number_of}

unfoldable pub listing_outcome : Result ℕ Refusal → List ℕ → Outcome ℕ
listing_outcome (Err refusal) text = refuse (number_of refusal) text
listing_outcome (Ok size) text = record { answer = answered size; items = text }
