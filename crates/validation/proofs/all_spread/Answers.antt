-- `validation::all_spread` meets its contract.
-- Assumes nothing.
use mathlib.Core.Path.{◌≡◌, refl, ◌∙◌}
use mathlib.Core.Bool.{true, false}
use Prim.Native.Nat.{ℕ, ◌<◌, ◌≤◌}
use Rattle.std.proofs.Common.{rules, tests, arith}
use Rattle.std.proofs.lemmas.Iterator.{YieldsList-from_range, cases_from_all}
use Rattle.order.proofs.Extremes.{allb-intro, allb-false}
use Rattle.model.specs.Placement.{replicas, word_of}
use Rattle.cluster.proofs.Laws.{cluster-blocks}
use Rattle.validation.proofs.Laws.{tested_below, is_spread, spread_row}
use Rattle.validation.proofs.all_spread.Goals as goal

pub returns : goal.returns
returns c p count of =
    let words = c.args.held.now.words.now in
    let profiles = c.args.held.now.profiles.now in
    let n = c.args.held.now.cluster.blocks in
    let test = is_spread p words profiles in
    let cluster = of.profiles-of.cluster in
    let some : (i : ℕ) → i < n → 1 ≤ replicas p (word_of words i) = λ i l. of.some i (rw (cluster-blocks p _ cluster) at l) in
    tested_below n _ _ (λ i. i < n → test i ≡ true) (λ i. i < n → test i ≡ false)
    (cases_from_all _ _ _ (λ i. i < n → test i ≡ true) (λ i. i < n → test i ≡ false) c.all.ensures.ran
    (YieldsList-from_range 0 n n refl (omega arith)) (λ x q k. search (rules, tests)) (λ x q k. search (rules, tests)))
    (λ each. allb-intro n test (λ i l. each i l l))
    (λ i l fails. allb-false n test i l (fails l))
    ∙ spread_row p words c.args.held.now.cluster count profiles of
