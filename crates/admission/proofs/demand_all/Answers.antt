-- `admission::demand_all` meets its contract: the demands of the records are the plan's, and the smaller of budget and places is its limit.
-- Assumes nothing.
use native.Mathlib.Nat.{mul-le-mul}
use native.Mathlib.Omega.{arith}
use Rattle.cluster.proofs.Laws.{cluster-range}
use Rattle.plan.proofs.Laws.{accepted-header}
use Rattle.admission.proofs.Laws.{limited-of}
use Rattle.admission.proofs.demand_all.Goals as goal

pub overflow_mul-places : goal.overflow_mul-places
overflow_mul-places c =
    let laws = accepted-header _ _ c.args.plan.now.accepts in
    omega (arith, mul-le-mul c.machines.ensures.1 (cluster-range _ _ laws.cluster-of).capacity-max)

pub returns : goal.returns
returns c =
    let allowed = rw c.machines.ensures.0 at c.min.ensures in
    record {
      fit = c.decode.ensures.fit;
      limited = limited-of _ _ (accepted-header _ _ c.args.plan.now.accepts) _ _ c.decode.ensures _ allowed;
    }
