-- `script::step_lent` meets its contract: the step's outcome, reply by reply.
-- Assumes nothing.
use Rattle.std.proofs.lemmas.Result.{err_from_is_err_and}
use Rattle.service.specs.Entries.{step_outcome}
use Rattle.script.specs.Script.{reply_is}
use Rattle.script.proofs.Laws.{respond-step}
use Rattle.script.proofs.step_lent.Goals as goal

pub returns-in_err-step : goal.returns-in_err-step
unfolding reply_is step_outcome
returns-in_err-step c =
    let p = err_from_is_err_and c.from_residual.result c.from_residual.ensures.1 in
    rw (p.1, p.2) (respond-step _ _ _ c.in_err-step.ensures)

pub returns : goal.returns
unfolding reply_is step_outcome
returns c = respond-step _ _ _ c.in_ok-step.ensures
