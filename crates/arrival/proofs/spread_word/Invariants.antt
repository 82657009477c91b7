-- `arrival::spread_word` meets its contract. The loop's invariant: the copies passed, and the domains with room in which no copy lies.
-- Assumes nothing.
use Rattle.arrival.proofs.Spreading.{Spreading}
use Rattle.arrival.proofs.spread_word.Given as goal

abbrev pub invariant-loop : goal.invariant-loop
invariant-loop l = Spreading l.parts l.weights l.load l.roomy l.spread l.word l.left l.counter
