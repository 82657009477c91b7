-- `arrival::fill_word` meets its contract. The loop's invariant: the word with the copies passed, and the free machines that it has not.
-- Assumes nothing.
use native.Mathlib.Omega.{arith}
use Rattle.arrival.proofs.Laws.{count-some}
use Rattle.arrival.proofs.Filling.{filling-none, filling-off, filling_step}
use Rattle.arrival.proofs.fill_word.Goals as goal

pub loop-init : goal.loop-init
loop-init c = filling-none _ _ _ _ _ c.requires c.and_not-left.ensures

pub lightest_of-m-requires : goal.lightest_of-m-requires
lightest_of-m-requires c =
    record {
      some = count-some 64 c.loop.left (omega (arith, c.loop.invariant.enough, c.loop-test.true));
      weight-room = omega (arith, c.requires.loads-sized);
    }

pub with_bit-filled-requires : goal.with_bit-filled-requires
with_bit-filled-requires c =
    let m = c.lightest_of-m.ensures in
    (m.below, filling-off _ _ _ _ _ _ _ _ c.loop.invariant m)

pub loop-preserved : goal.loop-preserved
loop-preserved c =
    rw (c.with_bit-filled.ensures, c.without_bit-left.ensures)
    (filling_step _ _ _ _ _ _ _ _ c.loop.invariant c.lightest_of-m.ensures)
