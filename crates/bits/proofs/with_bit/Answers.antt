-- `bits::with_bit` meets its contract: a bit that is clear can be added within 64 bits.
-- Assumes nothing.
use native.Mathlib.Omega.{arith}
use Rattle.theory.proofs.Placement.{bit-add-below}
use Rattle.bits.proofs.Laws.{one_shl}
use Rattle.bits.proofs.with_bit.Goals as goal

pub overflow_add-result : goal.overflow_add-result
overflow_add-result c =
    let m = c.args.m in
    omega (arith, one_shl m c.requires.0, bit-add-below c.args.word 64 m c.ranges.word.fits c.requires.0 c.requires.1)

pub returns : goal.returns
returns c = rw (one_shl c.args.m c.requires.0)
