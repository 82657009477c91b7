-- `bits::without_bit` meets its contract: a word is at least each of its bits.
-- Assumes nothing.
use native.Mathlib.Omega.{arith}
use Rattle.theory.proofs.Placement.{bit-take}
use Rattle.bits.proofs.Laws.{one_shl}
use Rattle.bits.proofs.without_bit.Goals as goal

pub overflow_sub-result : goal.overflow_sub-result
overflow_sub-result c =
    let m = c.args.m in
    omega (arith, one_shl m c.requires.0, (bit-take c.args.word m c.requires.1).0)

pub returns : goal.returns
returns c = rw (one_shl c.args.m c.requires.0)
