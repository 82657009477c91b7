-- `lines::put_blocks` meets its contract. The loop's invariant: the lines of the blocks passed stand in the text.
-- Assumes nothing.
use Rattle.order.specs.Table.{joined}
use Rattle.text.specs.Pasted.{Put}
use Rattle.lines.specs.Rows.{row_at}
use Rattle.lines.proofs.put_blocks.Given as goal

abbrev pub invariant-loop-i : goal.invariant-loop-i
invariant-loop-i l =
    Put l.at (joined l.i (row_at l.held.profiles.now l.held.words.now)) l.initial.text l.text l.next
