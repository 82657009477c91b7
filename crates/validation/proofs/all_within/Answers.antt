-- `validation::all_within` meets its contract.
-- Assumes nothing.
use mathlib.Core.Path.{◌∙◌}
use Prim.Native.Nat.{◌^◌}
use lib.Dec.{ltb}
use lib.ListN.{take}
use Rattle.std.proofs.Common.{rules, tests, arith}
use Rattle.std.proofs.lemmas.Grind.{common_steps}
use Rattle.std.proofs.lemmas.Iterator.{YieldsList-from_slice}
use Rattle.std.proofs.lemmas.Iterator.Search.{all_from_yields_List}
use Rattle.validation.proofs.Laws.{allb-front, within-row}
use Rattle.validation.proofs.all_within.Goals as goal

pub returns : goal.returns
returns c p of =
    let a = c.args in
    let first = all_from_yields_List (λ w. ltb w (2 ^ c.machines-machines.result)) _ _ _ c.all.ensures.ran
    (YieldsList-from_slice (take a.cluster.blocks a.words.now) (grind (arith, common_steps))) (λ x b q k. search (rules, tests)) in
    first ∙ allb-front _ _ _ c.requires.word_room ∙ rw c.machines-machines.ensures.0 (within-row p a.words.now a.cluster of)
