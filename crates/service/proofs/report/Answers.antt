-- `service::report` meets its contract: refused by the way in, or the report on its loads.
-- Assumes nothing.
use mathlib.Core.Path.{ap, ◌∙◌}
use Rattle.model.specs.Calls.{report_call, answered, Report}
use Rattle.loads.proofs.Laws.{loads-narrow}
use Rattle.std.proofs.lemmas.Result.{err_from_is_err_and}
use Rattle.service.specs.Entries.{report_outcome}
use Rattle.service.proofs.Laws.{placement-refused, placement-made, report-is}
use Rattle.service.proofs.report.Goals as goal

pub returns-in_err-held : goal.returns-in_err-held
unfolding report_outcome report_call
returns-in_err-held c =
    let p = err_from_is_err_and c.from_residual.result c.from_residual.ensures.1 in
    rw (p.1, p.2) (placement-refused _ _ _ _ c.in_err-held.ensures)

pub report-requires : goal.report-requires
report-requires c =
    let ready = c.in_ok-held.ensures in
    record {
      machines-max = ready.prepared.fit.in-range.machines-max;
      load-narrow = loads-narrow _ _ _ _ _ ready.loads-of ready.prepared.fit;
    }

pub returns : goal.returns
unfolding report_outcome report_call
returns c =
    let ready = c.in_ok-held.ensures in
    ap (λ (r : Report). record { answer = answered r; items = c.args.words.now }) (report-is _ _ _ _ ready _ c.report.ensures)
    ∙ placement-made _ _ _ _ _ ready
