-- `loads::add_word` meets its contract. The loop's invariant: each item with what its bit left is to add is the item at entry with what the word's bit is.
-- Assumes nothing.
use native.Mathlib.Omega.{arith}
use Rattle.loads.proofs.Adding.{owing-step, owing-ungrown, added-to}
use Rattle.loads.proofs.add_word.Goals as goal

pub overflow_add-loads : goal.overflow_add-loads
overflow_add-loads c =
    let low = c.in-Some.ensures.steps.0 in
    omega (arith, owing-ungrown low c.loop-m.invariant.0, c.requires.load-room _ low.below)

pub overflow_add-copies : goal.overflow_add-copies
overflow_add-copies c =
    let low = c.in-Some.ensures.steps.0 in
    omega (arith, owing-ungrown low c.loop-m.invariant.1, c.requires.copies-room _ low.below)

pub loop-m-preserved : goal.loop-m-preserved
loop-m-preserved c =
    let inv = c.loop-m.invariant in
    let one = c.in-Some.ensures.steps in
    rw one.1 (owing-step one.0 inv.0, owing-step one.0 inv.1)

pub returns : goal.returns
returns c = let inv = c.loop-m.invariant in added-to c.in-None.ensures.steps.0 inv.0 inv.1
