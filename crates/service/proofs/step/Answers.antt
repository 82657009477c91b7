-- `service::step` meets its contract: refused by the way in, or the next step taken.
-- Assumes nothing.
use mathlib.Core.Path.{ap₂, ◌∙◌}
use mathlib.Core.List.{List}
use Rattle.model.specs.Steps.{Step}
use Rattle.model.specs.Calls.{step_call, answered}
use Rattle.std.proofs.lemmas.Result.{err_from_is_err_and}
use Rattle.service.specs.Entries.{step_outcome}
use Rattle.service.proofs.Laws.{placement-refused, placement-made}
use Prim.Native.Nat.{ℕ}
use Rattle.service.proofs.step.Goals as goal

pub returns-in_err-held : goal.returns-in_err-held
unfolding step_outcome step_call
returns-in_err-held c =
    let p = err_from_is_err_and c.from_residual.result c.from_residual.ensures.1 in
    rw (p.1, p.2) (placement-refused _ _ _ _ c.in_err-held.ensures)

pub step-requires : goal.step-requires
step-requires c = let ready = c.in_ok-held.ensures in record { fits = ready.fits; loads-of = ready.loads-of }

pub returns : goal.returns
unfolding step_outcome step_call
returns c =
    let ready = c.in_ok-held.ensures in
    let stepped = c.step.ensures _ _ ready.placement in
    ap₂ (λ (s : Step) (w : List ℕ). record { answer = answered s; items = w }) stepped.step_is stepped.words_are
    ∙ placement-made _ _ _ _ _ ready
