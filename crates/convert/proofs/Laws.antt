-- What an answer of the converter sends to the streams: a buffer with room for every new file is never too short.
-- Assumes nothing.
use mathlib.Core.Path.{◌≡◌, refl, ap, ◌∙◌}
use mathlib.Core.List.{List}
use Prim.Native.Nat.{ℕ, ◌≤◌}
use native.Mathlib.Omega.{arith}
use lib.ListN.{length}
use Rattle.model.specs.Plan.{Plan, format_of}
use Rattle.model.specs.Refusal.{Verdict, refused, accepted}
use Rattle.model.specs.Calls.{turned_back, answered, Outcome}
use Rattle.model.specs.Listing.{refused_line}
use Rattle.model.specs.Conversion.{converted, convert_verdict, convert_call, converted_output, converted_errors}
use Rattle.theory.proofs.Refusal.{accepted-laws}
use Rattle.theory.proofs.Listing.{wrote-part, wrote-within, wrote-never}
use Rattle.theory.proofs.Conversion.{converted-length, convert_call-refused, convert_call-made}
use Rattle.theorems.proofs.Conversion.{conversions}
use Rattle.conversion.specs.Entries.{convert_outcome}
use Rattle.std.proofs.Common.{Result, Ok, Err}
use Rattle.refusal.specs.declared.Refusal.{Refusal}
use Rattle.refusal.specs.Rows.{number_of}
use Rattle.convert.specs.Output.{output_for, errors_for, result_room, result_size, answer_errors, Sends}

-- ── converted ────────────────────────────────────────────────────────────────────────────────────
converted-fits : (bytes : List ℕ) (p : Plan) → convert_verdict bytes ≡ accepted p → length (converted p) ≤ result_room
unfolding format_of
converted-fits bytes p e =
    let valid = (accepted-laws bytes p ((conversions.takes bytes p).taken e).accepts).valid in
    omega (arith, converted-length p, valid.shaped.blocks-max)

-- ── convert_call ──────────────────────────────────────────────────────────────────────────────────
module _ (bytes old buffer : List ℕ) (enough : result_room ≤ length old) where
  -- the verdict's two cases, each with the answer that the call gives
  sends : (v : Verdict) → convert_verdict bytes ≡ v → (answer : Result ℕ Refusal) → convert_outcome answer buffer ≡ convert_call bytes old
      → Sends answer buffer (converted_output v) (converted_errors v)
  unfolding convert_outcome converted_output converted_errors result_size answer_errors
  sends (refused code) e (Err own) made =
      let answers : turned_back (number_of own) ≡ turned_back code =
      ap (λ (o : Outcome ℕ). o.answer) (made ∙ convert_call-refused bytes old code e) in
      let same : number_of own ≡ code = cc in
      record { within = omega arith; output-is = refl; errors-is = ap refused_line same }
  sends (refused code) e (Ok size) made =
      let answers : answered size ≡ turned_back code =
      ap (λ (o : Outcome ℕ). o.answer) (made ∙ convert_call-refused bytes old code e) in
      absurd (let z : ◌≡◌ {A = ℕ} 0 1 = cc in omega arith)
  sends (accepted p) e (Err own) made =
      absurd (wrote-never (converted p) old buffer (number_of own) (made ∙ convert_call-made bytes old p e (omega (arith, converted-fits bytes p e))))
  sends (accepted p) e (Ok size) made =
      let wrote = made ∙ convert_call-made bytes old p e (omega (arith, converted-fits bytes p e)) in
      record {
        within = wrote-within (converted p) old buffer size wrote;
        output-is = wrote-part (converted p) old buffer size wrote;
        errors-is = refl;
      }

  pub convert_call-sends : (answer : Result ℕ Refusal) → convert_outcome answer buffer ≡ convert_call bytes old
      → Sends answer buffer (output_for bytes) (errors_for bytes)
  convert_call-sends answer made = sends (convert_verdict bytes) refl answer made
