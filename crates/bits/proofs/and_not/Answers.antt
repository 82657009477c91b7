-- `bits::and_not` meets its contract, bit by bit.
-- Assumes nothing.
use Rattle.bits.proofs.Laws.{bit-and-not}
use Rattle.bits.proofs.and_not.Goals as goal

pub returns : goal.returns
returns c = bit-and-not 64 c.args.a c.args.b c.ranges.a.fits c.ranges.b.fits
