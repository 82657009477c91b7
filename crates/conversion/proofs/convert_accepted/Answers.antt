-- `conversion::convert_accepted` meets its contract: a short buffer first, and otherwise the new file is written.
-- Assumes nothing.
use mathlib.Core.Path.{◌≡◌, ap₂, sym, ◌∙◌}
use Prim.Native.Nat.{ℕ}
use native.Mathlib.Omega.{arith}
use lib.ListN.{length}
use Rattle.model.specs.Plan.{Format, format_of, record_at}
use Rattle.model.specs.Conversion.{written_version, converted}
use Rattle.theory.proofs.Conversion.{converted-length, convert_call-short, convert_call-made}
use Rattle.text.proofs.Laws.{put-wrote}
use Rattle.plan.specs.declared.passed.Accepted.{Accepted}
use Rattle.plan.specs.Verdict.{accepted_plan}
use Rattle.plan.proofs.Laws.{plan_of-blocks}
use Rattle.conversion.specs.Entries.{convert_outcome}
use Rattle.conversion.proofs.convert_accepted.Goals as goal

-- the size that was compared is the new file's
size_is : (a : Accepted) (new : Format) (size : ℕ) → new ≡ format_of written_version → size ≡ record_at new a.records.blocks
    → size ≡ length (converted (accepted_plan a))
size_is a new size same is =
    let plan = accepted_plan a in
    is ∙ ap₂ record_at same (a.blocks_are ∙ sym (plan_of-blocks _ _)) ∙ sym (converted-length plan)

pub returns-then-buffer-record_at : goal.returns-then-buffer-record_at
unfolding convert_outcome
returns-then-buffer-record_at c =
    let size = size_is c.args.plan.now _ _ c.format_of-new.ensures c.record_at.ensures.0 in
    sym (convert_call-short _ _ _ c.requires (rw (← size) c.if-buffer-record_at.true))

pub put_plan-requires : goal.put_plan-requires
put_plan-requires c =
    let size = size_is c.args.plan.now _ _ c.format_of-new.ensures c.record_at.ensures.0 in
    (c.widths_of.ensures ∙ c.format_of-new.ensures, record { fits = omega (arith, size, c.if-buffer-record_at.false) })

pub returns : goal.returns
unfolding convert_outcome
returns c =
    let size = size_is c.args.plan.now _ _ c.format_of-new.ensures c.record_at.ensures.0 in
    put-wrote _ _ _ _ c.put_plan.ensures
    ∙ sym (convert_call-made _ _ _ c.requires (omega (arith, size, c.if-buffer-record_at.false)))
