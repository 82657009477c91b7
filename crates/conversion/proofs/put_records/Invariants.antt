-- `conversion::put_records` meets its contract. The loop's invariant: the new records of the blocks passed stand in the buffer.
-- Assumes nothing.
use Rattle.order.specs.Table.{joined}
use Rattle.text.specs.Pasted.{Put}
use Rattle.encoding.specs.Widths.{as_widths}
use Rattle.conversion.proofs.Laws.{renewed}
use Rattle.conversion.proofs.put_records.Given as goal

abbrev pub invariant-loop-i : goal.invariant-loop-i
invariant-loop-i l =
    Put l.at (joined l.i (renewed (as_widths l.new) l.plan.records.bytes.now)) l.initial.buffer l.buffer l.next
