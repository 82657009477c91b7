-- `search::as_step` meets its contract, variant by variant.
-- Assumes nothing.
use Rattle.transfers.specs.Route.{hit_of}
use Rattle.search.specs.Scene.{step_of}
use Rattle.search.proofs.as_step.Goals as goal

pub returns-in-Move-true : goal.returns-in-Move-true
unfolding step_of hit_of
returns-in-Move-true c = rw (c.in-Move-true.is-0, c.in-Move-true.is-1)

pub returns-in-Move-false : goal.returns-in-Move-false
unfolding step_of hit_of
returns-in-Move-false c = rw (c.in-Move-false.is-0, c.in-Move-false.is-1)

pub returns-in-Swap-true : goal.returns-in-Swap-true
unfolding step_of hit_of
returns-in-Swap-true c = rw (c.in-Swap-true.is-0, c.in-Swap-true.is-1)

pub returns-in-Swap-false : goal.returns-in-Swap-false
unfolding step_of hit_of
returns-in-Swap-false c = rw (c.in-Swap-false.is-0, c.in-Swap-false.is-1)
