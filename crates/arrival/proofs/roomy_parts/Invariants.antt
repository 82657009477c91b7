-- `arrival::roomy_parts` meets its contract. The loop's invariant: `roomy` has the parts passed that have a machine.
-- Assumes nothing.
use mathlib.Core.Path.{◌≡◌}
use Rattle.arrival.specs.Arrival.{roomy_in}
use Rattle.arrival.proofs.roomy_parts.Given as goal

abbrev pub invariant-loop-d : goal.invariant-loop-d
invariant-loop-d l = l.roomy ≡ roomy_in l.parts l.d
