-- `admission::admit` meets its contract: an accepted plan with enough items lent is prepared.
-- Assumes nothing.
use Rattle.admission.proofs.admit.Goals as goal

pub returns : goal.returns
returns c =
    let entered = c.in_ok-plan.ensures in
    record { plan = _; reads = entered.reads; enough = entered.enough; prepared = c.prepare-top.ensures }
