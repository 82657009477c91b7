-- `plan::scan_pairs` meets its contract. The loop's invariant: no block passed is refused.
-- Assumes nothing.
use mathlib.Core.Path.{◌≡◌, refl, ap, sym, ◌∙◌}
use Prim.Native.Nat.{◌<◌}
use native.Mathlib.Omega.{arith}
use borrow.Author.Tests.{lt-ltb}
use borrow.Author.Count.{below_none, below_more}
use Rattle.order.proofs.Searches.{first-none, first-at}
use Rattle.std.proofs.lemmas.Result.{err_from_is_err_and}
use Rattle.refusal.proofs.Laws.{number_of-pos}
use Rattle.model.specs.Plan.{block_count, plan_in}
use Rattle.model.specs.Refusal.{is_refusal, pair_refusal, pairs_refusal}
use Rattle.records.proofs.Laws.{file-count, file-of, unpaired-refusal}
use Rattle.plan.proofs.Laws.{passed-format, passed-file}
use Rattle.plan.proofs.scan_pairs.Goals as goal

pub file_records-records-requires : goal.file_records-records-requires
file_records-records-requires c = passed-file _ _ c.requires _ (c.format_of.ensures ∙ passed-format _ _ c.requires)

pub returns-then-records-eq0 : goal.returns-then-records-eq0
returns-then-records-eq0 c =
    let r = c.file_records-records in
    sym (unpaired-refusal _ _ _ (file-of r.result r.ensures.3 _ r.ensures.0) c.if-records-eq0.true)

pub loop-i-init : goal.loop-i-init
loop-i-init c = below_none _

pub returns-in_err-check_pair : goal.returns-in_err-check_pair
unfolding pairs_refusal
returns-in_err-check_pair c =
    let out = err_from_is_err_and c.from_residual.result c.from_residual.ensures.1 in
    let p = plan_in c.args.bytes.now in
    let r = c.file_records-records in
    let count = file-count r.result r.ensures.3 _ r.ensures.0 in
    let code = c.in_err-check_pair.ensures p (file-of r.result r.ensures.3 _ r.ensures.0) count in
    let within : c.loop-i.i < block_count p = rw (← count) c.loop-i-test.true in
    rw (out.1, out.2)
    (sym
    (first-at is_refusal 0 refl (pair_refusal p) (block_count p) c.loop-i.i within c.loop-i.invariant
    (rw (← code) (lt-ltb 0 _ (number_of-pos c.in_err-check_pair.field-0.0)))
    ∙ sym code))

pub loop-i-preserved : goal.loop-i-preserved
loop-i-preserved c =
    let r = c.file_records-records in
    let code = c.in_ok-check_pair.ensures (plan_in c.args.bytes.now) (file-of r.result r.ensures.3 _ r.ensures.0) (file-count r.result r.ensures.3 _ r.ensures.0) in
    below_more _ c.loop-i.i c.loop-i.invariant (ap is_refusal (sym code))

pub returns : goal.returns
unfolding pairs_refusal
returns c =
    let p = plan_in c.args.bytes.now in
    let r = c.file_records-records in
    let passed : c.loop-i.i ≡ block_count p = rw (← (file-count r.result r.ensures.3 _ r.ensures.0)) (omega arith) in
    sym (first-none is_refusal 0 refl (pair_refusal p) (block_count p) (rw passed at c.loop-i.invariant))
