-- `arrival::domain_weights` meets its contract. The loop's invariant: the weights are those of the machines passed.
-- Assumes nothing.
use Rattle.arrival.proofs.Laws.{Weighing}
use Rattle.arrival.proofs.domain_weights.Given as goal

abbrev pub invariant-loop-m : goal.invariant-loop-m
invariant-loop-m l = Weighing l.loads.load l.cluster l.weights l.m
