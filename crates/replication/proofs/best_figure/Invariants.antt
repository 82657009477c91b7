-- `replication::best_figure` meets its contract. The loop's invariant: the upper end is reachable, and nothing below the lower end is.
-- Assumes nothing.
use Prim.Native.Nat.{◌-◌}
use Rattle.model.specs.Plan.{Plan}
use Rattle.replication.specs.Choice.{BracketFits, BracketOf, LimitedDemands}
use Rattle.replication.proofs.best_figure.Given as goal

abbrev pub invariant-loop-bracket : goal.invariant-loop-bracket
invariant-loop-bracket l =
    BracketFits l.bracket × ((p : Plan) → LimitedDemands p l.cluster l.demands l.allowed → BracketOf p l.bracket)

abbrev pub decreases-loop-bracket : goal.decreases-loop-bracket
decreases-loop-bracket l = l.bracket.high - l.bracket.low
