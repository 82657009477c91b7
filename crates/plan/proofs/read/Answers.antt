-- `plan::read` meets its contract: each part refuses with the model's row, or leaves the verdict to the next one.
-- Assumes nothing.
use mathlib.Core.Path.{◌≡◌, ap, sym, ◌∙◌}
use mathlib.Core.List.{List}
use Prim.Native.Nat.{ℕ, ◌*◌}
use native.Mathlib.Nat.{mul-le-mul}
use native.Mathlib.Omega.{arith}
use Rattle.std.proofs.lemmas.Result.{err_from_is_err_and}
use Rattle.model.specs.Plan.{plan_in}
use Rattle.model.specs.Refusal.{check23, check10, check11, pairs_refusal, max_machines, max_capacity, refusal, judge, accepted}
use Rattle.theory.proofs.Refusal.{judge-refused, judge-accepted}
use Rattle.refusal.proofs.Laws.{number_of-pos}
use Rattle.cluster.specs.Cluster.{machines_in}
use Rattle.header.specs.declared.Header.{Header}
use Rattle.header.specs.Header.{PassedAs}
use Rattle.records.specs.declared.view.Records.{Records}
use Rattle.plan.specs.Reading.{plan_of, TotalAs}
use Rattle.plan.specs.Verdict.{verdict_of}
use Rattle.plan.proofs.Laws.{plan_of-in, passed-format, passed-file, refusal-fault, refusal-pairs, refusal-sums}
use Rattle.plan.proofs.read.Goals as goal

-- where check 17 passes, the tests of the sum decide
left-sums : (bytes : List ℕ) (h : Header) (total machines code : ℕ) → PassedAs bytes h → TotalAs bytes total
    → 0 ≡ pairs_refusal (plan_in bytes)
    → machines ≡ machines_in h.cluster
    → code ≡ check23 h.version (machines * h.cluster.capacity) h.budget (check10 h.budget total (check11 (machines * h.cluster.capacity) total 0))
    → refusal bytes ≡ code
left-sums bytes h total machines code passed summed paired is-machines is-code =
    refusal-sums bytes h passed total summed.none (sym paired) summed.is ∙ (rw (is-code, is-machines))

pub returns-in_err-h-clause-judged : goal.returns-in_err-h-clause-judged
unfolding verdict_of
returns-in_err-h-clause-judged c =
    let p = err_from_is_err_and c.from_residual.result c.from_residual.ensures.1 in
    let refused = c.in_err-h.ensures in
    rw (p.1, p.2) (sym (judge-refused _ _ refused.is refused.some))

pub file_records-records-requires : goal.file_records-records-requires
file_records-records-requires c =
    passed-file _ _ c.in_ok-h.ensures _ (c.format_of.ensures ∙ passed-format _ _ c.in_ok-h.ensures)

pub scan_records-requires : goal.scan_records-requires
scan_records-requires c = c.in_ok-h.ensures

pub scan_pairs-requires : goal.scan_pairs-requires
scan_pairs-requires c = c.in_ok-h.ensures

pub returns-in_err-total-clause-judged : goal.returns-in_err-total-clause-judged
unfolding verdict_of
returns-in_err-total-clause-judged c =
    let p = err_from_is_err_and c.from_residual-in_err-total.result c.from_residual-in_err-total.ensures.1 in
    let fault = c.in_err-total.ensures in
    rw (p.1, p.2) (sym (judge-refused _ _ (refusal-fault _ _ c.in_ok-h.ensures _ fault.is fault.some) fault.some))

pub returns-in_err-scan_pairs-clause-judged : goal.returns-in_err-scan_pairs-clause-judged
unfolding verdict_of
returns-in_err-scan_pairs-clause-judged c =
    let p = err_from_is_err_and c.from_residual-in_err-scan_pairs.result c.from_residual-in_err-scan_pairs.ensures.1 in
    let some = number_of-pos c.in_err-scan_pairs.field-0.0 in
    rw (p.1, p.2)
    (sym (judge-refused _ _ (refusal-pairs _ _ c.in_ok-h.ensures _ c.in_ok-total.ensures.none (sym c.in_err-scan_pairs.ensures) some) some))

pub overflow_mul-places : goal.overflow_mul-places
overflow_mul-places c =
    omega (arith, mul-le-mul {n₂ = max_machines} {m₂ = max_capacity} c.machines.ensures.1 c.in_ok-h.ensures.in-range.capacity-max)

pub returns-in_err-check_total-clause-judged : goal.returns-in_err-check_total-clause-judged
unfolding verdict_of
returns-in_err-check_total-clause-judged c =
    let p = err_from_is_err_and c.from_residual-in_err-check_total.result c.from_residual-in_err-check_total.ensures.1 in
    let left = left-sums _ _ _ _ _ c.in_ok-h.ensures c.in_ok-total.ensures c.in_ok-scan_pairs.ensures
    c.machines.ensures.0 c.in_err-check_total.ensures in
    rw (p.1, p.2) (sym (judge-refused _ _ left (number_of-pos _)))

-- the records answered are those of the bytes that were read
accepts-same : (r : Records) (bytes : List ℕ) (h : Header) → r.bytes.now ≡ bytes → judge bytes ≡ accepted (plan_of bytes h)
    → judge r.bytes.now ≡ accepted (plan_of r.bytes.now h)
accepts-same r bytes h same is = rw same is

pub invariant_of-result-clause-accepts : goal.invariant_of-result-clause-accepts
invariant_of-result-clause-accepts c =
    let left = left-sums _ _ _ _ _ c.in_ok-h.ensures c.in_ok-total.ensures c.in_ok-scan_pairs.ensures
    c.machines.ensures.0 c.in_ok-check_total.ensures in
    accepts-same c.file_records-records.result _ _ c.file_records-records.ensures.0
    (judge-accepted _ left ∙ ap accepted (sym (plan_of-in _ _ c.in_ok-h.ensures.fields)))

pub invariant_of-result-clause-format_is : goal.invariant_of-result-clause-format_is
invariant_of-result-clause-format_is c = c.file_records-records.ensures.3.format-is

pub returns-clause-judged : goal.returns-clause-judged
unfolding verdict_of
returns-clause-judged c =
    let left = left-sums _ _ _ _ _ c.in_ok-h.ensures c.in_ok-total.ensures c.in_ok-scan_pairs.ensures
    c.machines.ensures.0 c.in_ok-check_total.ensures in
    rw c.file_records-records.ensures.0
    (ap accepted (plan_of-in _ _ c.in_ok-h.ensures.fields) ∙ sym (judge-accepted _ left))
