-- `layout::lay` meets its contract. The loop's invariant: as many copies as the loop has turned are laid.
-- Assumes nothing.
use Rattle.layout.proofs.Laws.{Laying}
use Rattle.layout.proofs.lay.Given as goal

abbrev pub invariant-loop : goal.invariant-loop
invariant-loop l = Laying l.initial.at l.counter l.word l.at
