-- `balance::follow` meets its contract: one shift, or two, of which the second can still be made after the first.
-- Assumes nothing.
use Rattle.balance.proofs.Laws.{followed-move, follow-back, followed-swap, is_move, is_swap}
use Rattle.balance.proofs.follow.Goals as goal

pub shift-requires-in-Move : goal.shift-requires-in-Move
shift-requires-in-Move c =
    let pre = c.requires in
    record { cluster = pre.cluster; asked = pre.asked; copy = rw (is_move c.in-Move.is).1 at pre.found }

pub returns-in-Move : goal.returns-in-Move
returns-in-Move c = followed-move c.shift-in-Move.ensures (is_move c.in-Move.is).1

pub shift-given-requires : goal.shift-given-requires
shift-given-requires c =
    let pre = c.requires in
    let found = rw (is_swap c.in-Swap.is).1 at pre.found in
    record { cluster = pre.cluster; asked = pre.asked; copy = found.0 }

pub shift-requires : goal.shift-requires
shift-requires c =
    follow-back c.shift-given.ensures c.requires.asked (rw (is_swap c.in-Swap.is).1 at c.requires.found)

pub returns-in-Swap : goal.returns-in-Swap
returns-in-Swap c = followed-swap c.shift-given.ensures c.shift.ensures (is_swap c.in-Swap.is).1
