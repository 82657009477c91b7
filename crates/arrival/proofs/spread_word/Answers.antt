-- `arrival::spread_word` meets its contract. The loop's invariant: the copies passed, and the domains with room in which no copy lies.
-- Assumes nothing.
use native.Mathlib.Omega.{arith}
use Rattle.theory.proofs.Placement.{bit_le}
use Rattle.arrival.proofs.Laws.{count-some}
use Rattle.arrival.proofs.Spreading.{spreading-none, spreading-off, spreading-step}
use Rattle.arrival.proofs.spread_word.Goals as goal

pub loop-init : goal.loop-init
loop-init c = spreading-none _ _ _ _ _ c.requires

pub lightest_of-d-requires : goal.lightest_of-d-requires
lightest_of-d-requires c =
    record {
      some = count-some 64 c.loop.left (omega (arith, c.loop.invariant.enough, c.loop-test.true));
      weight-room = omega (arith, c.requires.weights-sized);
    }

pub lightest_of-m-requires : goal.lightest_of-m-requires
lightest_of-m-requires c =
    let d = c.lightest_of-d in
    let pre = c.requires in
    let most = bit_le c.args.roomy d.result in
    record {
      some = pre.roomy-some d.result (omega (arith, c.loop.invariant.fewer d.result, d.ensures.on));
      weight-room = omega (arith, pre.loads-sized);
    }

pub with_bit-word-requires : goal.with_bit-word-requires
with_bit-word-requires c =
    let d = c.lightest_of-d.ensures in
    let m = c.lightest_of-m.ensures in
    (m.below, spreading-off _ _ _ _ _ _ _ _ _ _ c.requires c.loop.invariant d m)

pub loop-preserved : goal.loop-preserved
loop-preserved c =
    let d = c.lightest_of-d.ensures in
    let m = c.lightest_of-m.ensures in
    rw (c.with_bit-word.ensures, c.without_bit-left.ensures)
    (spreading-step _ _ _ _ _ _ _ _ _ _ c.requires c.loop.invariant d m)
