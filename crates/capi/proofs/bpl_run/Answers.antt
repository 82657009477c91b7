-- `capi::bpl_run` meets its contract: a short out first, then the entry's outcome, as a code, the words and numbers over out.
-- Assumes nothing.
use native.Mathlib.Omega.{arith}
use Rattle.service.specs.Entries.{run_outcome}
use Rattle.interface.specs.Interface.{run_numbers}
use Rattle.codes.proofs.Laws.{effect-told}
use Rattle.capi.proofs.bpl_run.Goals as goal

pub returns : goal.returns
returns c = effect-told 2 run_numbers _ _ _ (run_outcome _) _ _ _ (omega arith) c.run-answer.ensures c.tell_run.ensures
