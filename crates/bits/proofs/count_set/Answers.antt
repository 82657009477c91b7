-- `bits::count_set` meets its contract: below 2 ^ 64, the ones of a word are the sum of its 64 bits.
-- Assumes nothing.
use native.Mathlib.Omega.{arith}
use lib.Count.{ones-le}
use Rattle.bits.proofs.Laws.{ones-sum}
use Rattle.bits.proofs.count_set.Goals as goal

pub overflow_cast-result : goal.overflow_cast-result
overflow_cast-result c = omega (arith, ones-le 64 c.args.word c.ranges.word.fits)

pub returns : goal.returns
returns c = ones-sum 64 c.args.word c.ranges.word.fits
