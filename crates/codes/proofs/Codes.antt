-- The codes of every exported function tell answers from refusals.
-- Assumes nothing.
use mathlib.Core.Path.{◌≡◌, refl}
use mathlib.Core.Bool.{Bool, true, false}
use mathlib.Core.Logic.{◌⊎◌, ◌↔◌, inl, inr}
use mathlib.Core.List.{List, []}
use Prim.Native.Nat.{ℕ, zero, suc, ◌≤◌}
use native.Mathlib.Nat.{le_trans}
use native.Mathlib.Decide.{dec_le}
use native.Mathlib.Omega.{arith}
use lib.Dec.{ltb, lit≤}
use lib.ListN.{length}
use Rattle.model.specs.Plan.{Plan, block_count, plan_in}
use Rattle.model.specs.Refusal.{refuse_if, check12, refusal, accepted, verdict, judge, verdict_code}
use Rattle.model.specs.Calls.{Answer, turned_back, answered, Outcome, OutcomeOver, on_plan, unless, placement_refusal, on_placement, counts_call, first_call, check_call, report_call, step_call, run_call}
use Rattle.model.specs.Listing.{listing_room, room_refusal, wrote, listing_call}
use Rattle.model.specs.Conversion.{converted, convert_refusal, convert_verdict, convert_call}
use Rattle.theory.proofs.Refusal.{refuse_if-all, refusal-le}
use Rattle.model.specs.declared.Entry.{Entry}
use Rattle.model.specs.ReadLog.{check19, read_refusal, read_call, popularity_call}
use Rattle.theory.proofs.Calls.{placement_refusal-le}
use Rattle.theory.proofs.Conversion.{convert_refusal-le}
use Rattle.theory.proofs.ReadLog.{check19-le, read_refusal-le}
use Rattle.interface.specs.Interface.{short_out, replied}
use Rattle.codes.specs.Codes.{last_row, RefusalCode, Tells, EffectTells, Codes, ReadCodes}
use Rattle.codes.proofs.Laws.{out-short, out-enough}

-- row 12 alone
buffer-le : (lent count : ℕ) → check12 lent count 0 ≤ last_row
unfolding check12
buffer-le lent count = refuse_if-all (λ n. n ≤ last_row) (ltb lent count) 12 0 (lit≤ tt) (lit≤ tt)

-- an answer whose refusals have codes of refusals
abbrev Told : {A : Type 0} → Answer A → Type 0
Told (turned_back code) = RefusalCode code
Told (answered a) = Unit

module _ {I A : Type 0} (items : List I) where
  unless-told : (code : ℕ) (call : OutcomeOver I A) → (code ≤ last_row) ⊎ (code ≡ short_out) → Told call.answer
      → Told (unless code items call).answer
  unfolding unless
  unless-told zero call row told = told
  unless-told (suc code) call row told = record { some = omega arith; row = row }

  verdict-told : (code : ℕ) (p : Plan) (rows : Plan → ℕ) (call : Plan → OutcomeOver I A) → code ≤ last_row
      → (rows p ≤ last_row) ⊎ (rows p ≡ short_out) → Told (call p).answer → Told (on_plan (verdict code p) items rows call).answer
  unfolding on_plan
  verdict-told zero p rows call l row told = unless-told (rows p) (call p) row told
  verdict-told (suc code) p rows call l row told = record { some = omega arith; row = inl (omega arith) }

  plan-told : (bytes : List ℕ) (rows : Plan → ℕ) (call : Plan → OutcomeOver I A) → rows (plan_in bytes) ≤ last_row → Told (call (plan_in bytes)).answer
      → Told (on_plan (judge bytes) items rows call).answer
  unfolding judge
  plan-told bytes rows call row told = verdict-told (refusal bytes) (plan_in bytes) rows call (refusal-le bytes) (inl row) told

placement-told : {A : Type 0} (items bytes : List ℕ) (call : Plan → Outcome A) → Told (call (plan_in bytes)).answer
    → Told (on_placement bytes items call).answer
unfolding on_placement
placement-told items bytes call told =
    plan-told items bytes (placement_refusal items) call (le_trans (placement_refusal-le (plan_in bytes) items) (lit≤ tt)) told

-- two constructors
clash : ◌≡◌ {A = ℕ} 0 1 → ⊥
clash e = omega arith

-- the code of an effect tells what the answer is
replied-tells : {I A : Type 0} (need : ℕ) (numbers : A → List ℕ) (items : List I) (out : List ℕ) → need ≤ length out
    → (answer : Answer A) → Told answer → Tells need out answer (replied numbers answer items out).code
unfolding replied
replied-tells need numbers items out l (turned_back code) told =
    record {
      known = inr told;
      done = (λ e. absurd (let s = told.some in omega arith), λ d. absurd (let e = d.given.1 in clash (cc)));
    }
replied-tells need numbers items out l (answered a) told =
    record { known = inl refl; done = (λ e. record { room = l; given = (a, refl) }, λ d. refl) }

effect-tells : {I A : Type 0} (need : ℕ) (numbers : A → List ℕ) (items : List I) (out : List ℕ) (call : OutcomeOver I A) → Told call.answer
    → EffectTells need numbers items out call
effect-tells need numbers items out call told =
    elim (dec_le need (length out)) [
      | yes l ↦ rw (out-enough need numbers items out call l) (replied-tells need numbers call.items out l call.answer told)
      | no l ↦ rw (← out-short need numbers items out call (omega arith))
          (record {
            known = inr (record { some = omega arith; row = inr refl });
            done = (λ e. absurd (omega arith), λ d. absurd (omega (arith, d.room)));
          })
    ]

-- the verdict's code
verdict-known : (code : ℕ) (p : Plan) → code ≤ last_row → (verdict_code (verdict code p) ≡ 0) ⊎ RefusalCode (verdict_code (verdict code p))
unfolding verdict_code
verdict-known zero p l = inl refl
verdict-known (suc code) p l = inr (record { some = omega arith; row = inl (omega arith) })

verdict-done : (code : ℕ) (p : Plan) → (verdict_code (verdict code p) ≡ 0) ↔ ((q : Plan) × (verdict code p ≡ accepted q))
unfolding verdict_code
verdict-done zero p = (λ e. (p, refl), λ d. refl)
verdict-done (suc code) p = (λ e. absurd (omega arith), λ d. absurd (let e = d.1 in clash (cc)))

-- a listing's room
room_row : (t : Bool) → (refuse_if t short_out 0 ≤ last_row) ⊎ (refuse_if t short_out 0 ≡ short_out)
room_row true = inr refl
room_row false = inl (lit≤ tt)

module _ (plan items : List ℕ) where
  counts-told : Told (counts_call plan items).answer
  unfolding counts_call
  counts-told = plan-told items plan _ _ (buffer-le (length items) (block_count (plan_in plan))) tt

  first-told : Told (first_call plan items).answer
  unfolding first_call
  first-told = plan-told items plan _ _ (buffer-le (length items) (block_count (plan_in plan))) tt

  check-told : Told (check_call plan items).answer
  unfolding check_call
  check-told = placement-told items plan _ tt

  report-told : Told (report_call plan items).answer
  unfolding report_call
  report-told = placement-told items plan _ tt

  step-told : Told (step_call plan items).answer
  unfolding step_call
  step-told = placement-told items plan _ tt

  run-told : (limit : ℕ) → Told (run_call plan items limit).answer
  unfolding run_call
  run-told limit = placement-told items plan _ tt

  listing-told : (limit : ℕ) → Told (listing_call plan limit items).answer
  unfolding listing_call room_refusal wrote
  listing-told limit = unless-told items _ _ (room_row (ltb (length items) listing_room)) (plan-told items plan _ _ (lit≤ tt) tt)

  convert-told : Told (convert_call plan items).answer
  unfolding convert_call convert_verdict wrote
  convert-told =
      verdict-told items (convert_refusal plan) (plan_in plan) _ _ (convert_refusal-le plan)
      (inl (buffer-le (length items) (length (converted (plan_in plan)))))
      tt

pub codes : Codes
unfolding judge
codes plan items out limit =
    record {
      plan-known = verdict-known (refusal plan) (plan_in plan) (refusal-le plan);
      plan-done = verdict-done (refusal plan) (plan_in plan);
      counts-tells = effect-tells _ _ items [] _ (counts-told plan items);
      first-tells = effect-tells _ _ items [] _ (first-told plan items);
      check-tells = effect-tells _ _ items [] _ (check-told plan items);
      report-tells = effect-tells _ _ items out _ (report-told plan items);
      step-tells = effect-tells _ _ items out _ (step-told plan items);
      run-tells = effect-tells _ _ items out _ (run-told plan items limit);
      listing-tells = effect-tells _ _ items out _ (listing-told plan items limit);
      convert-tells = effect-tells _ _ items out _ (convert-told plan items);
    }

-- the calls on reads
module _ (plan : List ℕ) (list : List Entry) (block count : ℕ) where
  read_told : (tick : ℕ) → Told (read_call plan block tick list count).answer
  unfolding read_call
  read_told tick = plan-told list plan (read_refusal block tick list count) _ (le_trans (read_refusal-le block tick list count (plan_in plan)) (lit≤ tt)) tt

  popularity-told : Told (popularity_call plan block list count).answer
  unfolding popularity_call
  popularity-told = plan-told list plan (λ p. check19 block (block_count p) 0) _ (le_trans (check19-le block (block_count (plan_in plan)) 0 (lit≤ tt)) (lit≤ tt)) tt

pub read-codes : ReadCodes
read-codes plan list out block tick count =
    record {
      read-tells = effect-tells _ _ list out _ (read_told plan list block count tick);
      popularity-tells = effect-tells _ _ list out _ (popularity-told plan list block count);
    }
