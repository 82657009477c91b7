-- `capi::bpl_step` meets its contract: a short out first, then the entry's outcome, as a code, the words and numbers over out.
-- Assumes nothing.
use native.Mathlib.Omega.{arith}
use Rattle.service.specs.Entries.{step_outcome}
use Rattle.interface.specs.Interface.{step_numbers}
use Rattle.codes.proofs.Laws.{effect-told}
use Rattle.capi.proofs.bpl_step.Goals as goal

pub returns : goal.returns
returns c = effect-told 6 step_numbers _ _ _ (step_outcome _) _ _ _ (omega arith) c.step-answer.ensures c.tell_step.ensures
