-- `index::Index::enter` meets its contract. The loop's invariant: the block is entered at the machines that have left the bits to come,
-- by number and by rank, and nothing else has changed.
-- Assumes nothing.
use Prim.Native.Nat.{ℕ}
use Rattle.index.specs.declared.Index.{Index}
use Rattle.index.specs.Index.{Kept}
use Rattle.index.proofs.Laws.{Marking}
use Rattle.index.proofs.Index.enter.Given as goal

-- block i, at rank r, is entered at the machines that have left `rest`
pub record Entering (entry index : Index) (word rest i r : ℕ) : Type 0 where
  pub number : Marking entry.by_number index.by_number word rest i
  pub rank : Marking entry.by_rank index.by_rank word rest r
  pub kept : Kept entry index

abbrev pub invariant-loop-m : goal.invariant-loop-m
invariant-loop-m l = Entering l.initial.self l.self l.word l.m-iterator.rest l.i l.r
