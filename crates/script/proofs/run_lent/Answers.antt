-- `script::run_lent` meets its contract: the run's outcome, reply by reply.
-- Assumes nothing.
use Rattle.std.proofs.lemmas.Result.{err_from_is_err_and}
use Rattle.service.specs.Entries.{run_outcome}
use Rattle.script.specs.Script.{reply_is}
use Rattle.script.proofs.Laws.{respond-run}
use Rattle.script.proofs.run_lent.Goals as goal

pub returns-in_err-ran : goal.returns-in_err-ran
unfolding reply_is run_outcome
returns-in_err-ran c =
    let p = err_from_is_err_and c.from_residual.result c.from_residual.ensures.1 in
    rw (p.1, p.2) (respond-run _ _ _ _ c.in_err-ran.ensures)

pub returns : goal.returns
unfolding reply_is run_outcome
returns c = respond-run _ _ _ _ c.in_ok-ran.ensures
