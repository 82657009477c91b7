-- The answers of the calls on reads and the lent list at exit, as the model's outcomes.
use Rattle.std.specs.Prelude.{List, ℕ, Result, Ok, Err}
use Rattle.model.specs.declared.Entry.{Entry}
use Rattle.model.specs.Calls.{OutcomeOver, answered, refuse}
use Rattle.refusal.specs.declared.Refusal.{Refusal}
use Rattle.refusal.specs.Rows.{number_of}

unfoldable pub reads_outcome : Result ℕ Refusal → List Entry → OutcomeOver Entry ℕ
reads_outcome (Err refusal) list = refuse (number_of refusal) list
reads_outcome (Ok n) list = record { answer = answered n; items = list }
