-- `arrival::fill_word` meets its contract. The loop's invariant: the word with the copies passed, and the free machines that it has not.
-- Assumes nothing.
use Rattle.arrival.proofs.Filling.{Filling}
use Rattle.arrival.proofs.fill_word.Given as goal

abbrev pub invariant-loop : goal.invariant-loop
invariant-loop l = Filling l.free l.word l.load l.others l.filled l.left l.counter
