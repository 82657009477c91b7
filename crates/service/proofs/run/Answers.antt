-- `service::run` meets its contract: refused by the way in, or next steps taken and how they ended.
-- Assumes nothing.
use mathlib.Core.Path.{◌∙◌}
use Rattle.model.specs.Calls.{run_call}
use Rattle.std.proofs.lemmas.Result.{err_from_is_err_and}
use Rattle.service.specs.Entries.{run_outcome}
use Rattle.service.proofs.Laws.{placement-refused, placement-made, run-is}
use Rattle.service.proofs.run.Goals as goal

pub returns-in_err-held : goal.returns-in_err-held
unfolding run_outcome run_call
returns-in_err-held c =
    let p = err_from_is_err_and c.from_residual.result c.from_residual.ensures.1 in
    rw (p.1, p.2) (placement-refused _ _ _ _ c.in_err-held.ensures)

pub run-ran-requires : goal.run-ran-requires
run-ran-requires c = let ready = c.in_ok-held.ensures in record { fits = ready.fits; loads-of = ready.loads-of }

pub returns : goal.returns
unfolding run_outcome run_call
returns c =
    let ready = c.in_ok-held.ensures in
    run-is _ _ _ (c.run-ran.ensures _ _ ready.placement) ∙ placement-made _ _ _ _ _ ready
