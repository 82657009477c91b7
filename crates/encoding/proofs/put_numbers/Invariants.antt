-- `encoding::put_numbers` meets its contract. The loop's invariant: the numbers passed stand in the buffer, and the others are left.
-- Assumes nothing.
use Rattle.std.proofs.Common.{◌≡◌, ◌≤◌, length, drop}
use Rattle.order.specs.Table.{joined}
use Rattle.text.specs.Pasted.{Put}
use Rattle.encoding.specs.Pieces.{number_at}
use Rattle.encoding.proofs.put_numbers.Given as goal

abbrev pub invariant-loop-width : goal.invariant-loop-width
invariant-loop-width l =
    record {
      passed : length l.yielded ≤ length l.widths;
      widths_left : l.width-iterator.a.rest.now ≡ drop (length l.yielded) l.widths;
      numbers_left : l.width-iterator.b.rest.now ≡ drop (length l.yielded) l.numbers;
      put : Put l.at (joined (length l.yielded) (number_at l.widths l.numbers)) l.initial.buffer l.buffer l.next;
    }
