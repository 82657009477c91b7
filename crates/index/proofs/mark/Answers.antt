-- `index::mark` meets its contract.
-- Assumes nothing.
use native.Mathlib.Omega.{arith}
use Rattle.index.specs.Index.{spot}
use Rattle.index.proofs.Laws.{mark-marked}
use Rattle.index.proofs.mark.Goals as goal

pub with_bit-requires : goal.with_bit-requires
unfolding spot
with_bit-requires c =
    (omega arith, c.requires.clear)

pub returns : goal.returns
returns c =
    rw c.with_bit.ensures (mark-marked _ _ _ (omega (arith, c.requires.m-below, c.requires.below)) c.requires.clear c.requires.below)
