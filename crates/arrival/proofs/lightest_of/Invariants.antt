-- `arrival::lightest_of` meets its contract. The loop's invariant: `best` is the lightest of the numbers passed.
-- Assumes nothing.
use Rattle.arrival.proofs.Laws.{BestOf}
use Rattle.arrival.proofs.lightest_of.Given as goal

abbrev pub invariant-loop-k : goal.invariant-loop-k
invariant-loop-k l = BestOf l.set l.k-iterator.rest l.weights l.best
