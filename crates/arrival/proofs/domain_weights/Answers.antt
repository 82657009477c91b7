-- `arrival::domain_weights` meets its contract. The loop's invariant: the weights are those of the machines passed.
-- Assumes nothing.
use native.Mathlib.Omega.{arith}
use Rattle.arrival.proofs.Laws.{domain-max, weighing-none, weighing-step}
use Rattle.arrival.proofs.domain_weights.Goals as goal

pub loop-m-init : goal.loop-m-init
loop-m-init c = weighing-none _ _

pub loop-m-preserved : goal.loop-m-preserved
loop-m-preserved c =
    let pre = c.requires in
    let small = pre.1.load-narrow c.loop-m.m (omega (arith, pre.0.machines-max)) in
    weighing-step _ _ _ _ c.loop-m.invariant (domain-max _ pre.0 c.loop-m.m) small
