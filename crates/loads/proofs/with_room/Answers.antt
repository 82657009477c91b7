-- `loads::with_room` meets its contract. The loop's invariant: the machines passed that have room are the set bits.
-- Assumes nothing.
use mathlib.Core.Path.{◌∙◌}
use Rattle.loads.proofs.Room.{room-none, room_open, room-full}
use Rattle.loads.proofs.with_room.Goals as goal

pub loop-m-init : goal.loop-m-init
loop-m-init c = room-none

pub loop-m-preserved : goal.loop-m-preserved
loop-m-preserved c =
    let room = c.loop-m.invariant in
    elim c.if-copies-m.branch [
      | goal.then-copies-m w ↦ rw (w.room-is ∙ w.with_bit-room.ensures) (room_open room w.if-copies-m.true)
      | goal.else-copies-m w ↦ rw w.room-is (room-full room w.if-copies-m.false)
    ]
