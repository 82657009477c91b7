-- Laws of the converter's definitions: the result's length, which bytes it takes, and how the call's outcome follows.
-- Assumes nothing.
use mathlib.Core.Path.{◌≡◌, ap, ◌∙◌}
use mathlib.Core.Bool.{Bool, not, ◌||◌}
use mathlib.Core.List.{List}
use Prim.Native.Nat.{ℕ, zero, suc, ◌<◌, ◌≤◌}
use native.Mathlib.Nat.{pos_of_ne-zero}
use native.Mathlib.Omega.{arith}
use lib.Dec.{eqb, ltb, lit≤}
use lib.ListN.{length}
use Rattle.model.specs.Plan.{Plan, block_count, common_length, mark_in, version_in, format_of, record_at, plan_in}
use Rattle.model.specs.Refusal.{refuse_if, or_else, mark, check1, check2, check3, refusal, refused, accepted, verdict, judge}
use Rattle.model.specs.Calls.{refuse}
use Rattle.model.specs.Listing.{wrote}
use Rattle.model.specs.Conversion.{converted_version, written_version, with_version, converted, convert_refusal, convert_verdict, result_refusal, convert_call}
use Rattle.theory.proofs.Refusal.{refuse_if-all, or_else-some, check12-short, check12-enough, refusal-le}
use Rattle.theory.proofs.Calls.{on_plan-verdict, on_plan-refused, on_plan-made, call_refusal-accepted}
use Rattle.theory.proofs.WritingPlan.{plan_bytes-length}

-- ── converted ────────────────────────────────────────────────────────────────────────────────────
pub converted-length : (p : Plan) → length (converted p) ≡ record_at (format_of written_version) (block_count p)
unfolding converted
converted-length p = plan_bytes-length (with_version written_version p)

-- ── convert_refusal ───────────────────────────────────────────────────────────────────────────────
-- it has a number up to 23, as the plan's own
pub convert_refusal-le : (bytes : List ℕ) → convert_refusal bytes ≤ 23
unfolding convert_refusal check1 check2 check3
convert_refusal-le bytes =
    let version = version_in bytes in
    row (ltb (length bytes) common_length) 1 _ (lit≤ tt)
    (row (not (eqb (mark_in bytes) mark)) 2 _ (lit≤ tt)
    (row (eqb version 0 || ltb converted_version version) 3 _ (lit≤ tt) (refusal-le bytes)))
  where
    row : (t : Bool) (code later : ℕ) → code ≤ 23 → later ≤ 23 → refuse_if t code later ≤ 23
    row = refuse_if-all (λ n. n ≤ 23)

-- ── convert_verdict ───────────────────────────────────────────────────────────────────────────────
pub convert_verdict-refused : (bytes : List ℕ) (code : ℕ) → convert_refusal bytes ≡ code → 1 ≤ code → convert_verdict bytes ≡ refused code
unfolding convert_verdict
convert_verdict-refused bytes zero e l = absurd (omega arith)
convert_verdict-refused bytes (suc code) e l = ap (λ (n : ℕ). verdict n (plan_in bytes)) e

-- rows 1 to 3, with the converter's last version, decide by their code; past them, the plan's own rows do
module _ (bytes : List ℕ) (code : ℕ)
    (rows : (later : ℕ) → check1 (length bytes) (check2 (mark_in bytes) (check3 converted_version (version_in bytes) later)) ≡ or_else code later) where
  pub convert_verdict-marked : (code ≡ 0 → ⊥) → convert_verdict bytes ≡ refused code
  unfolding convert_refusal
  convert_verdict-marked some = convert_verdict-refused bytes code (rows (refusal bytes) ∙ or_else-some code _ some) (pos_of_ne-zero some)

  pub convert_verdict-judged : code ≡ 0 → convert_verdict bytes ≡ judge bytes
  unfolding convert_verdict convert_refusal judge
  convert_verdict-judged none = ap (λ (n : ℕ). verdict n (plan_in bytes)) (rows (refusal bytes) ∙ ap (λ (n : ℕ). or_else n (refusal bytes)) none)

-- ── convert_call ──────────────────────────────────────────────────────────────────────────────────
module _ (bytes buffer : List ℕ) where
  pub convert_call-refused : (code : ℕ) → convert_verdict bytes ≡ refused code → convert_call bytes buffer ≡ refuse code buffer
  unfolding convert_call
  convert_call-refused code e = on_plan-verdict buffer (result_refusal buffer) _ (convert_verdict bytes) code e

  module _ (p : Plan) (e : convert_verdict bytes ≡ accepted p) where
    pub convert_call-short : length buffer < length (converted p) → convert_call bytes buffer ≡ refuse 12 buffer
    unfolding convert_call
    convert_call-short l =
        on_plan-refused buffer (result_refusal buffer) _ (convert_verdict bytes) 12
        (call_refusal-accepted (convert_verdict bytes) p (result_refusal buffer) e ∙ check12-short _ _ 0 l)
        (omega arith)

    pub convert_call-made : length (converted p) ≤ length buffer → convert_call bytes buffer ≡ wrote (converted p) buffer
    unfolding convert_call
    convert_call-made l = on_plan-made buffer (result_refusal buffer) _ (convert_verdict bytes) p e (check12-enough _ _ 0 l)
