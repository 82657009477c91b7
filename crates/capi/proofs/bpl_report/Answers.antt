-- `capi::bpl_report` meets its contract: a short out first, then the entry's outcome, as a code and numbers over out.
-- Assumes nothing.
use native.Mathlib.Omega.{arith}
use Rattle.service.specs.Entries.{report_outcome}
use Rattle.interface.specs.Interface.{report_numbers}
use Rattle.codes.proofs.Laws.{effect-told}
use Rattle.capi.proofs.bpl_report.Goals as goal

pub returns : goal.returns
returns c = effect-told 4 report_numbers _ _ _ (report_outcome _) _ _ _ (omega arith) c.report-answer.ensures c.tell_report.ensures
