-- `text::put_fields` meets its contract. The loop's invariant: the fields of the numbers passed stand in the text.
-- Assumes nothing.
use lib.ListN.{take}
use Rattle.model.specs.Listing.{fields}
use Rattle.text.specs.Pasted.{Put}
use Rattle.text.proofs.put_fields.Given as goal

abbrev pub invariant-loop-number : goal.invariant-loop-number
invariant-loop-number l = Put l.at (fields (take l.number-index l.numbers)) l.initial.text l.text l.next
