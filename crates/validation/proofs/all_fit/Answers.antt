-- `validation::all_fit` meets its contract.
-- Assumes nothing.
use mathlib.Core.Path.{◌∙◌}
use lib.Dec.{leb}
use lib.ListN.{take, length}
use Prim.Native.Nat.{◌≤◌}
use Rattle.std.proofs.Common.{rules, tests, arith}
use Rattle.std.proofs.lemmas.Grind.{common_steps}
use Rattle.std.proofs.lemmas.Iterator.{YieldsList-from_slice}
use Rattle.std.proofs.lemmas.Iterator.Search.{all_from_yields_List}
use Rattle.cluster.specs.Cluster.{machines_in}
use Rattle.validation.proofs.Laws.{allb-front, fit_row}
use Rattle.validation.proofs.all_fit.Goals as goal

pub returns : goal.returns
returns c p words of =
    let a = c.args in
    let copies = a.loads.copies in
    let room : machines_in a.cluster ≤ length copies = grind (arith, common_steps) in
    let first = all_from_yields_List (λ x. leb x a.cluster.capacity) _ _ _ c.all.ensures.ran
    (YieldsList-from_slice (take (machines_in a.cluster) copies) (grind (arith, common_steps))) (λ x b q k. search (rules, tests)) in
    first ∙ allb-front _ _ _ room ∙ fit_row p words a.cluster a.loads of
