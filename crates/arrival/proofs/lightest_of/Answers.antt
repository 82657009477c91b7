-- `arrival::lightest_of` meets its contract. The loop's invariant: `best` is the lightest of the numbers passed.
-- Assumes nothing.
use native.Mathlib.Omega.{arith}
use Rattle.arrival.proofs.Laws.{best_of-first, best_of-lighter, best_of-same, best_of-all}
use Rattle.arrival.proofs.lightest_of.Goals as goal

pub loop-k-init : goal.loop-k-init
loop-k-init c =
    rw (c.into_iter-k-iterator.ensures.into_iter_gives, c.ones-k-items.ensures, c.without_bit.ensures)
    (best_of-first _ _ _ c.lowest-best.ensures)

pub loop-k-preserved-then-weights-k : goal.loop-k-preserved-then-weights-k
loop-k-preserved-then-weights-k c =
    let one = c.in-Some.ensures.steps in
    rw one.1 (best_of-lighter _ _ _ _ _ one.0 c.loop-k.invariant c.if-weights-k.true)

pub loop-k-preserved : goal.loop-k-preserved
loop-k-preserved c =
    let one = c.in-Some.ensures.steps in
    rw one.1 (best_of-same _ _ _ _ _ one.0 c.loop-k.invariant (omega arith))

pub returns : goal.returns
returns c = best_of-all _ _ _ _ c.in-None.ensures.steps.0 c.loop-k.invariant
