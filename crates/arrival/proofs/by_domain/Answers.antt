-- `arrival::by_domain` meets its contract. The loop's invariant: a part, with what of the rest lies in its
-- domain, is what of the word does.
-- Assumes nothing.
use Rattle.arrival.proofs.Laws.{domain-max, parting-none, parting-off, parting-step, parting-all}
use Rattle.arrival.proofs.by_domain.Goals as goal

pub loop-m-init : goal.loop-m-init
loop-m-init c = rw (c.into_iter-m-iterator.ensures.into_iter_gives, c.ones-m-items.ensures) (parting-none _ _)

pub with_bit-requires : goal.with_bit-requires
with_bit-requires c =
    let low = c.in-Some.ensures.steps.0 in
    (low.below, parting-off _ _ _ _ _ low c.loop-m.invariant (domain-max _ c.requires _))

pub loop-m-preserved : goal.loop-m-preserved
loop-m-preserved c =
    let one = c.in-Some.ensures.steps in
    rw (one.1, c.with_bit.ensures)
    (parting-step _ _ _ _ _ one.0 c.loop-m.invariant (domain-max _ c.requires _))

pub returns : goal.returns
returns c = parting-all _ _ _ _ c.in-None.ensures.steps.0 c.loop-m.invariant
