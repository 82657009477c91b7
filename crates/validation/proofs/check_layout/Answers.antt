-- `validation::check_layout` meets its contract: each return rewrites the chain of rows with the tests that led there.
-- Assumes nothing.
use mathlib.Core.Path.{sym, ◌∙◌}
use Prim.Native.Nat.{ℕ}
use Rattle.model.specs.Plan.{Plan}
use Rattle.loads.proofs.Laws.{copies-used}
use mathlib.Core.List.{List}
use Rattle.cluster.specs.declared.Cluster.{Cluster}
use Rattle.loads.specs.declared.Loads.{Loads}
use Rattle.loads.specs.Loads.{LoadsOf}
use Rattle.validation.specs.Validation.{HeldAt, CopiesOf, layout_refusal}
use Rattle.validation.proofs.check_layout.Goals as goal

-- the loads' copies are those of the plan's machines
copies : (c : Cluster) (words profiles : List ℕ) (loads : Loads) → LoadsOf c words profiles loads.load loads.copies → (p : Plan) (count : ℕ → ℕ)
    → HeldAt p count c words profiles → CopiesOf p words c loads
copies c words profiles loads asked p count of =
    let cluster = of.profiles-of.cluster in
    record {
      cluster-of = cluster;
      copies-are = copies-used c words profiles loads.load loads.copies asked p cluster;
    }

pub returns-then-not-all_spread : goal.returns-then-not-all_spread
unfolding layout_refusal
returns-then-not-all_spread c p count of within =
    let out = sym (c.all_spread.ensures p count of) ∙ c.if-not-all_spread.true in
    sym (rw out)

pub returns-then-not-all_fit : goal.returns-then-not-all_fit
unfolding layout_refusal
returns-then-not-all_fit c p count of within =
    let out = sym (c.all_fit.ensures p _ (copies _ _ _ _ c.requires p count of)) ∙ c.if-not-all_fit.true in
    let spread = sym (c.all_spread.ensures p count of) ∙ c.if-not-all_spread.false in
    sym (rw (spread, out))

pub returns-then-not-all_apart : goal.returns-then-not-all_apart
unfolding layout_refusal
returns-then-not-all_apart c p count of within =
    let out = sym (c.all_apart.ensures p count of within) ∙ c.if-not-all_apart.true in
    let spread = sym (c.all_spread.ensures p count of) ∙ c.if-not-all_spread.false in
    let fit = sym (c.all_fit.ensures p _ (copies _ _ _ _ c.requires p count of)) ∙ c.if-not-all_fit.false in
    sym (rw (spread, fit, out))

pub returns : goal.returns
unfolding layout_refusal
returns c p count of within =
    let apart = sym (c.all_apart.ensures p count of within) ∙ c.if-not-all_apart.false in
    let spread = sym (c.all_spread.ensures p count of) ∙ c.if-not-all_spread.false in
    let fit = sym (c.all_fit.ensures p _ (copies _ _ _ _ c.requires p count of)) ∙ c.if-not-all_fit.false in
    sym (rw (spread, fit, apart))
