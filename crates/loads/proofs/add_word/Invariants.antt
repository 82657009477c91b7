-- `loads::add_word` meets its contract. The loop's invariant: each item with what its bit left is to add is the item at entry with what the word's bit is.
-- Assumes nothing.
use Rattle.loads.proofs.Adding.{Owing}
use Rattle.loads.proofs.add_word.Given as goal

abbrev pub invariant-loop-m : goal.invariant-loop-m
invariant-loop-m l =
    let rest = l.m-iterator.rest in
    Owing l.initial.loads l.loads l.word rest l.share × Owing l.initial.copies l.copies l.word rest 1
