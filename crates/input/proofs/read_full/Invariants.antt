-- `input::read_full` ends, since each read adds to what came; what is in the part is what the reader gave.
-- Assumes nothing.
use Rattle.std.proofs.Common.{◌≡◌, ◌≤◌, ◌-◌, length, take}
use Rattle.std.specs.Io.KnownBytes.{Consumes}
use Rattle.input.proofs.read_full.Given as goal

abbrev pub invariant-loop-size : goal.invariant-loop-size
invariant-loop-size g l =
    (length l.part ≡ length l.initial.part) × (l.size ≤ length l.part)
    × Consumes (g.R.Read.remaining l.initial.reader) (g.R.Read.remaining l.reader) (take l.size l.part)

abbrev pub decreases-loop-size : goal.decreases-loop-size
decreases-loop-size g l = length l.part - l.size
