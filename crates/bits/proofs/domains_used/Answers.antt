-- `bits::domains_used` meets its contract: the turns of the domains are laid over one another, and then the domains are ranges of bits.
-- Assumes nothing.
use mathlib.Core.Path.{◌∙◌}
use native.Mathlib.Omega.{arith}
use Rattle.cluster.proofs.Laws.{range-turn, range-turn-pos}
use Rattle.bits.proofs.Laws.{folded-used}
use Rattle.bits.proofs.domains_used.Goals as goal

pub overflow_mul-cluster : goal.overflow_mul-cluster
overflow_mul-cluster c = omega (arith, range-turn _ c.requires, c.requires.machines-max)

pub fold-folded-requires : goal.fold-folded-requires
fold-folded-requires c =
    let range = c.requires in
    (range-turn-pos _ range, range-turn _ range, range.machines-max)

pub groups_used-requires : goal.groups_used-requires
groups_used-requires c =
    let range = c.requires in
    (omega (arith, range-turn _ range, range.machines-max), range.size-pos)

pub returns : goal.returns
returns c p of = c.groups_used.ensures ∙ folded-used p _ of _ _ c.fold-folded.ensures
