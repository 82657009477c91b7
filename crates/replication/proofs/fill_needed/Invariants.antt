-- `replication::fill_needed` meets its contract. The loop's invariant: as far as it has come, profiles at the chosen counts stand where the
-- demands were.
-- Assumes nothing.
use mathlib.Core.Path.{◌≡◌}
use Prim.Native.Nat.{ℕ, ◌≤◌}
use lib.ListN.{length, get_or}
use Rattle.model.specs.Plan.{Plan}
use Rattle.model.specs.Replication.{chosen}
use Rattle.cluster.specs.Blocks.{DemandsOf}
use Rattle.replication.specs.Choice.{FigureOf}
use Rattle.replication.proofs.Filling.{FilledTo}
use Rattle.replication.proofs.fill_needed.Given as goal

abbrev pub invariant-loop-i : goal.invariant-loop-i
invariant-loop-i l =
    (length l.items ≡ length l.initial.items)
    × ((k : ℕ) → l.i ≤ k → get_or l.items k 0 ≡ get_or l.initial.items k 0)
    × ((p : Plan) → DemandsOf p l.fn.cluster l.initial.items → FigureOf p l.wanted → FilledTo p (chosen p) l.i l.initial.items l.items l.top)
