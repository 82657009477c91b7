-- `bits::shift_bit` meets its contract: n can be added within 64 bits, and the word is at least bit m.
-- Assumes nothing.
use native.Mathlib.Omega.{arith}
use Rattle.model.specs.Steps.{shifted}
use Rattle.theory.proofs.Placement.{bit-add-below, bit-take}
use Rattle.bits.proofs.Laws.{one_shl}
use Rattle.bits.proofs.shift_bit.Goals as goal

pub overflow_add-result : goal.overflow_add-result
overflow_add-result c =
    let n = c.args.n in
    omega (arith, one_shl n c.requires.1, bit-add-below c.args.word 64 n c.ranges.word.fits c.requires.1 c.requires.3)

pub overflow_sub-result : goal.overflow_sub-result
overflow_sub-result c =
    let m = c.args.m in
    omega (arith, one_shl m c.requires.0, (bit-take c.args.word m c.requires.2).0)

pub returns : goal.returns
unfolding shifted
returns c = rw (one_shl c.args.n c.requires.1, one_shl c.args.m c.requires.0)
