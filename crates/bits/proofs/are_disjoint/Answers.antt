-- `bits::are_disjoint` meets its contract, bit by bit.
-- Assumes nothing.
use Rattle.bits.proofs.Laws.{and-disjoint}
use Rattle.bits.proofs.are_disjoint.Goals as goal

pub returns : goal.returns
returns c = and-disjoint 64 c.args.a c.args.b c.ranges.a.fits c.ranges.b.fits
