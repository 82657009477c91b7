-- `records::machines_for` meets its contract: a link is 1 exactly if the block is not paired.
-- Assumes nothing.
use mathlib.Core.Path.{ap, ◌∙◌}
use Prim.Native.Nat.{ℕ, ◌/◌}
use native.Mathlib.Omega.{arith}
use Rattle.cluster.proofs.Laws.{link_of-single, link_of-paired}
use Rattle.records.proofs.machines_for.Goals as goal

pub returns-then-link-eq1 : goal.returns-then-link-eq1
returns-then-link-eq1 c = (
  λ p i m e. rw (link_of-single p i (omega (arith, e, c.if-link-eq1.true)), ← m) c.machines-machines.ensures.0,
  omega arith,
)

pub returns : goal.returns
returns c = (
  λ p i m e. rw (link_of-paired p i (λ z. c.if-link-eq1.false (e ∙ z)), ← m) (ap (λ (n : ℕ). n / 2) c.machines-machines.ensures.0),
  omega arith,
)
