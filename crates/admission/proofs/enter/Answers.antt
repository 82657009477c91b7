-- `admission::enter` meets its contract: a refused plan's number is the call's, and an accepted plan goes on to row 12.
-- Assumes nothing.
use mathlib.Core.Path.{sym, ◌∙◌}
use Rattle.std.proofs.lemmas.Result.{err_from_is_err_and}
use Rattle.theory.proofs.Calls.{call_refusal-refused, call_refusal-accepted}
use Rattle.theory.proofs.Refusal.{check12-short}
use Rattle.cluster.proofs.Laws.{cluster-blocks}
use Rattle.plan.specs.Verdict.{verdict_of}
use Rattle.plan.proofs.Laws.{accepted-header}
use Rattle.admission.proofs.enter.Goals as goal

pub returns-in_err-plan : goal.returns-in_err-plan
unfolding verdict_of
returns-in_err-plan c =
    let p = err_from_is_err_and c.from_residual.result c.from_residual.ensures.1 in
    rw (p.1, p.2) (sym (call_refusal-refused _ _ _ (sym c.in_err-plan.ensures.judged)))

pub returns-then-lent-plan : goal.returns-then-lent-plan
unfolding verdict_of
returns-then-lent-plan c =
    let accepts = sym c.in_ok-plan.ensures.judged in
    let of = (accepted-header _ _ c.in_ok-plan.plan.accepts).cluster-of in
    let short = rw (cluster-blocks _ _ of) at c.if-lent-plan.true in
    sym (call_refusal-accepted _ _ _ accepts ∙ check12-short _ _ 0 short)

pub returns : goal.returns
unfolding verdict_of
returns c =
    let accepts = sym c.in_ok-plan.ensures.judged in
    let of = (accepted-header _ _ c.in_ok-plan.plan.accepts).cluster-of in
    record { reads = accepts; enough = rw (cluster-blocks _ _ of) at c.if-lent-plan.false }
