-- `codes::tell_report` meets its contract, arm by arm.
-- Assumes nothing.
use mathlib.Core.Path.{refl}
use Rattle.service.specs.Entries.{report_outcome}
use Rattle.interface.specs.Interface.{report_numbers}
use Rattle.codes.proofs.Laws.{told-refused, told-answered}
use Rattle.codes.proofs.tell_report.Goals as goal

pub returns-in-Err : goal.returns-in-Err
unfolding report_outcome
returns-in-Err c = told-refused report_numbers report_outcome c.in-Err.is (λ items. refl) c.code_of.ensures

pub returns-in-Ok : goal.returns-in-Ok
unfolding report_outcome report_numbers
returns-in-Ok c =
    told-answered report_numbers report_outcome c.in-Ok.is (λ items. refl) c.write_numbers.ensures
