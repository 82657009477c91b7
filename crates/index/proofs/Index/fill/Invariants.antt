-- `index::Index::fill` meets its contract. The loop's invariant: the blocks passed are entered in both parts, and the order is as it was.
-- Assumes nothing.
use mathlib.Core.List.{List}
use Prim.Native.Nat.{ℕ}
use Rattle.index.specs.declared.Index.{Index}
use Rattle.index.specs.Index.{rank_at, Kept}
use Rattle.index.proofs.Laws.{Filed}
use Rattle.index.proofs.Index.fill.Given as goal

-- the first i blocks are entered
pub record Filling (entry : Index) (words : List ℕ) (index : Index) (i : ℕ) : Type 0 where
  pub number : Filed words index.by_number (λ k. k) i
  pub rank : Filed words index.by_rank (rank_at entry) i
  pub kept : Kept entry index

abbrev pub invariant-loop-i : goal.invariant-loop-i
invariant-loop-i l = Filling l.initial.self l.words l.self l.i
