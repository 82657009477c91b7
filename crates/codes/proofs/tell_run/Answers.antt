-- `codes::tell_run` meets its contract, arm by arm.
-- Assumes nothing.
use mathlib.Core.Path.{refl}
use Rattle.service.specs.Entries.{run_outcome}
use Rattle.interface.specs.Interface.{run_numbers}
use Rattle.codes.proofs.Laws.{told-refused, told-answered}
use Rattle.codes.proofs.tell_run.Goals as goal

pub returns-in-Err : goal.returns-in-Err
unfolding run_outcome
returns-in-Err c = told-refused run_numbers run_outcome c.in-Err.is (λ items. refl) c.code_of.ensures

pub returns-in-Ok : goal.returns-in-Ok
unfolding run_outcome
returns-in-Ok c =
    told-answered run_numbers run_outcome c.in-Ok.is (λ items. refl) (rw c.run_numbers-numbers.ensures at c.write_numbers.ensures)
