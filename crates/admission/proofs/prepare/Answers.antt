-- `admission::prepare` meets its contract: the plan's counts are chosen from its demands.
-- Assumes nothing.
use Rattle.admission.proofs.Laws.{prepared-of}
use Rattle.admission.proofs.prepare.Goals as goal

pub choose-requires : goal.choose-requires
choose-requires c = let made = c.demand_all-allowed.ensures in record { fit = made.fit; plan = _; limited = made.limited }

pub returns : goal.returns
returns c =
    let limited = c.demand_all-allowed.ensures.limited in
    prepared-of _ _ _ limited.demands-of.cluster _ _ _ (c.choose.ensures _ limited)
