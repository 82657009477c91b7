-- `bits::lowest` meets its contract: below 2 ^ 64, a word that is not 0 has its trailing zeros below a set bit.
-- Assumes nothing.
use native.Mathlib.Omega.{arith}
use lib.Count.{trailing_le}
use Rattle.bits.proofs.Laws.{lowest-below}
use Rattle.bits.proofs.lowest.Goals as goal

pub overflow_cast-result : goal.overflow_cast-result
overflow_cast-result c = omega (arith, trailing_le 64 c.args.word)

pub returns : goal.returns
returns c =
    let l = lowest-below 64 c.args.word c.requires c.ranges.word.fits in
    record { below = l.0; on = l.1; first = l.2 }
