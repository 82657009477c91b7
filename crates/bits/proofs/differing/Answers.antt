-- `bits::differing` meets its contract, bit by bit.
-- Assumes nothing.
use Rattle.bits.proofs.Laws.{bit-xor}
use Rattle.bits.proofs.differing.Goals as goal

pub returns : goal.returns
returns c = bit-xor c.args.a c.args.b
