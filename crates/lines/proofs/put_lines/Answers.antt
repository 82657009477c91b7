-- `lines::put_lines` meets its contract: each line behind the one before it.
-- Assumes nothing.
use native.Mathlib.Omega.{arith}
use Rattle.text.proofs.Laws.{room-first, room_next, put_then}
use Rattle.lines.proofs.put_lines.Goals as goal

pub put_line-first-requires : goal.put_line-first-requires
put_line-first-requires c =
    let room = c.requires in
    record { room = room-first _ _ _ _ (room-first _ _ _ _ room); numbers-max = omega arith }

pub put_blocks-next-requires : goal.put_blocks-next-requires
put_blocks-next-requires c =
    room_next _ _ _ _ (room-first _ _ _ _ c.requires) _ _ c.put_line-first.ensures

pub put_last-requires : goal.put_last-requires
put_last-requires c =
    let room = c.requires in
    room_next _ _ _ _ room _ _
    (put_then _ _ _ _ (room-first _ _ _ _ room) _ _ _ _ c.put_line-first.ensures c.put_blocks-next.ensures)

pub returns : goal.returns
returns c =
    let room = c.requires in
    put_then _ _ _ _ room _ _ _ _
    (put_then _ _ _ _ (room-first _ _ _ _ room) _ _ _ _ c.put_line-first.ensures c.put_blocks-next.ensures)
    c.put_last.ensures
