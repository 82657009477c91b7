-- The program writes what is printed for its whole input: a full buffer holds more than any plan, so what lies behind it changes nothing.
-- Assumes nothing.
use mathlib.Core.List.{List, []}
use Prim.Native.Nat.{ℕ}
use Rattle.model.specs.Listing.{step_limit}
use Rattle.theorems.proofs.LongInput.{long-input}
use Rattle.input.proofs.OnWhole.{on-whole}
use Rattle.place.specs.Output.{printed_for, ListsWhole}

pub lists-whole : ListsWhole
lists-whole = on-whole (List ℕ) [] printed_for (λ whole long. long-input whole long step_limit)
