-- `codes::tell_step` meets its contract, arm by arm.
-- Assumes nothing.
use mathlib.Core.Path.{refl}
use Rattle.service.specs.Entries.{step_outcome}
use Rattle.interface.specs.Interface.{step_numbers}
use Rattle.codes.proofs.Laws.{told-refused, told-answered}
use Rattle.codes.proofs.tell_step.Goals as goal

pub returns-in-Err : goal.returns-in-Err
unfolding step_outcome
returns-in-Err c = told-refused step_numbers step_outcome c.in-Err.is (λ items. refl) c.code_of.ensures

pub returns-in-Ok : goal.returns-in-Ok
unfolding step_outcome
returns-in-Ok c =
    told-answered step_numbers step_outcome c.in-Ok.is (λ items. refl) (rw c.step_numbers-numbers.ensures at c.write_numbers.ensures)
