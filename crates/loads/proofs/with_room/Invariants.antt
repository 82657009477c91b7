-- `loads::with_room` meets its contract. The loop's invariant: the machines passed that have room are the set bits.
-- Assumes nothing.
use Rattle.loads.specs.Loads.{RoomTo}
use Rattle.loads.proofs.with_room.Given as goal

abbrev pub invariant-loop-m : goal.invariant-loop-m
invariant-loop-m l = RoomTo l.cluster l.copies l.m l.room
