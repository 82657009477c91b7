-- `arrival::by_domain` meets its contract. The loop's invariant: a part, with what of the rest lies in its
-- domain, is what of the word does.
-- Assumes nothing.
use Rattle.arrival.proofs.Laws.{Parting}
use Rattle.arrival.proofs.by_domain.Given as goal

abbrev pub invariant-loop-m : goal.invariant-loop-m
invariant-loop-m l = Parting l.word l.m-iterator.rest l.cluster l.parts
