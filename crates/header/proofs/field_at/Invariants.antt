-- `header::field_at` meets its contract. The loop's invariant: the value is the field of the bytes passed, and below 256 for each of them.
-- Assumes nothing.
use mathlib.Core.Path.{◌≡◌}
use Prim.Native.Nat.{◌<◌, ◌^◌}
use Rattle.model.specs.Plan.{field}
use Rattle.header.proofs.field_at.Given as goal

abbrev pub invariant-loop-k : goal.invariant-loop-k
invariant-loop-k l = (l.value ≡ field l.bytes l.at l.k) × (l.value < 256 ^ l.k)
