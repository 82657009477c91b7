-- `script::check_lent` meets its contract: the check's outcome, reply by reply.
-- Assumes nothing.
use Rattle.std.proofs.lemmas.Result.{err_from_is_err_and}
use Rattle.service.specs.Entries.{check_outcome}
use Rattle.script.specs.Script.{reply_is}
use Rattle.script.proofs.Laws.{respond-check}
use Rattle.script.proofs.check_lent.Goals as goal

pub returns-in_err-check : goal.returns-in_err-check
unfolding reply_is check_outcome
returns-in_err-check c =
    let p = err_from_is_err_and c.from_residual.result c.from_residual.ensures.1 in
    rw (p.1, p.2) (respond-check _ _ _ c.in_err-check.ensures)

pub returns : goal.returns
unfolding reply_is check_outcome
returns c = respond-check _ _ _ c.in_ok-check.ensures
