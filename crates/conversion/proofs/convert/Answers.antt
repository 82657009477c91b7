-- `conversion::convert` meets its contract: rows 1 to 3 with the converter's last version first, then the plan's own verdict.
-- Assumes nothing.
use Rattle.std.proofs.Common.{refl, ap, sym, ◌∙◌}
use Rattle.std.proofs.lemmas.Result.{err_from_is_err_and}
use Rattle.model.specs.Conversion.{convert_verdict}
use Rattle.theory.proofs.Conversion.{convert_verdict-marked, convert_verdict-judged, convert_call-refused}
use Rattle.refusal.proofs.Laws.{number_of-some}
use Rattle.plan.specs.Verdict.{verdict_of}
use Rattle.conversion.specs.Entries.{convert_outcome}
use Rattle.conversion.proofs.convert.Goals as goal

pub returns-in_err-check_mark : goal.returns-in_err-check_mark
unfolding convert_outcome
returns-in_err-check_mark c =
    let p = err_from_is_err_and c.from_residual.result c.from_residual.ensures.1 in
    rw (p.1, p.2)
    (sym (convert_call-refused _ _ _ (convert_verdict-marked _ _ c.in_err-check_mark.ensures.code (number_of-some c.in_err-check_mark.field-0.0))))

pub returns-in_err-plan : goal.returns-in_err-plan
unfolding convert_outcome verdict_of
returns-in_err-plan c =
    let p = err_from_is_err_and c.from_residual-in_err-plan.result c.from_residual-in_err-plan.ensures.1 in
    rw (p.1, p.2)
    (sym (convert_call-refused _ _ _ (convert_verdict-judged _ _ c.in_ok-check_mark.ensures.code refl ∙ sym c.in_err-plan.ensures.judged)))

pub convert_accepted-requires : goal.convert_accepted-requires
unfolding verdict_of
convert_accepted-requires c =
    -- past rows 1 to 3, the converter judges as the reader does
    ap convert_verdict c.in_ok-plan.ensures.same
    ∙ convert_verdict-judged _ _ c.in_ok-check_mark.ensures.code refl
    ∙ sym c.in_ok-plan.ensures.judged

pub returns : goal.returns
returns c = rw (← c.in_ok-plan.ensures.same) c.convert_accepted.ensures
