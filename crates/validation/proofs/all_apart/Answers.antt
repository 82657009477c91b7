-- `validation::all_apart` meets its contract.
-- Assumes nothing.
use mathlib.Core.Path.{refl}
use Rattle.std.proofs.Common.{rules, tests, arith}
use Rattle.std.proofs.lemmas.Iterator.{YieldsList-from_range, cases_from_all}
use Rattle.validation.specs.Validation.{Apart}
use Rattle.validation.proofs.Laws.{tested_below, apart-passes, apart-fails}
use Rattle.validation.proofs.all_apart.Goals as goal

pub returns : goal.returns
returns c p count of within =
    let words = c.args.held.now.words.now in
    let profiles = c.args.held.now.profiles.now in
    let n = c.args.held.now.cluster.blocks in
    tested_below n _ _ (Apart words profiles) (λ i. Apart words profiles i → ⊥)
    (cases_from_all _ _ _ (Apart words profiles) (λ i. Apart words profiles i → ⊥) c.all.ensures.ran
    (YieldsList-from_range 0 n n refl (omega arith)) (λ x q k. search (rules, tests)) (λ x q k. search (rules, tests)))
    (apart-passes p words c.args.held.now.cluster count profiles of within)
    (apart-fails p words c.args.held.now.cluster count profiles of within)
