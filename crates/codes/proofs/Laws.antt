-- A told answer, refused or given; and an exported call's effect from what is told.
-- Assumes nothing.
use mathlib.Core.Path.{◌≡◌, refl, sym, ap, ap₂, ◌∙◌}
use mathlib.Core.List.{List, []}
use Rattle.std.specs.Prelude.{Result, Ok, Err}
use Prim.Native.Nat.{ℕ, ◌<◌, ◌≤◌}
use borrow.Author.Tests.{lt-ltb, le-ltb}
use lib.ListN.{length}
use Rattle.model.specs.Refusal.{verdict_code}
use Rattle.model.specs.Calls.{OutcomeOver, answered, refuse}
use Rattle.refusal.specs.declared.Refusal.{Refusal}
use Rattle.refusal.specs.Rows.{number_of, code_of}
use Rattle.plan.specs.declared.passed.Accepted.{Accepted}
use Rattle.plan.specs.Verdict.{verdict_of}
use Rattle.interface.specs.Interface.{Effect, effect_of, short_out, over, no_numbers, one_number, replied, effect}
use Rattle.codes.specs.Told.{Told, NumberTold}

-- an outcome's effect
abbrev effect-of : {I A : Type 0} → (A → List ℕ) → List ℕ → OutcomeOver I A → Effect I
effect-of numbers out outcome = replied numbers outcome.answer outcome.items out

-- an answer of type B that is read as an outcome: one of its variants, refused or given
module _ {I A B : Type 0} (numbers : A → List ℕ) (reading : B → List I → OutcomeOver I A) {answer variant : B} {out : List ℕ} (is : answer ≡ variant) where
  pub told-refused : {code number : ℕ} → ((items : List I) → refuse number items ≡ reading variant items) → code ≡ number → Told numbers (reading answer) out code out
  unfolding replied
  told-refused reads named =
      record {
        effect_is =
            λ items.
            ap (λ (n : ℕ). effect_of n items out) named ∙ ap (effect-of numbers out) (reads items ∙ ap (λ (b : B). reading b items) (sym is));
      }

  pub told-answered : {a : A} {out' : List ℕ} → ((items : List I) → record { answer = answered a; items = items } ≡ reading variant items) → out' ≡ over (numbers a) out
      → Told numbers (reading answer) out 0 out'
  unfolding replied
  told-answered reads wrote =
      record {
        effect_is =
            λ items.
            ap (λ (o : List ℕ). effect_of 0 items o) wrote ∙ ap (effect-of numbers out) (reads items ∙ ap (λ (b : B). reading b items) (sym is));
      }

-- a call's effect: `out` is short, or long enough
module _ {I A : Type 0} (need : ℕ) (numbers : A → List ℕ) (items : List I) (out : List ℕ) (call : OutcomeOver I A) where
  pub out-short : length out < need → effect_of short_out items out ≡ effect need numbers items out call
  unfolding effect
  out-short l = rw (lt-ltb (length out) need l)

  pub out-enough : need ≤ length out → effect need numbers items out call ≡ replied numbers call.answer call.items out
  unfolding effect
  out-enough l = rw (le-ltb (length out) need l)

  -- what is told of the entry's answer is the call's effect
  pub effect-told : (outcome : List I → OutcomeOver I A) (later : List I) (code : ℕ) (out' : List ℕ) → need ≤ length out → outcome later ≡ call
      → Told numbers outcome out code out' → effect_of code later out' ≡ effect need numbers items out call
  effect-told outcome later code out' l same told =
      told.effect_is later
      ∙ ap (effect-of numbers out) same
      ∙ sym (out-enough l)

-- an answer of a number whose outcome is written by cases, as every entry's is
module _ {I : Type 0} (outcome : Result ℕ Refusal → List I → OutcomeOver I ℕ)
    (refused : (refusal : Refusal) (items : List I) → outcome (Err refusal) items ≡ refuse (number_of refusal) items)
    (given : (n : ℕ) (items : List I) → outcome (Ok n) items ≡ record { answer = answered n; items = items }) where
  -- its code alone
  pub told-code : (answer : Result ℕ Refusal) → Told no_numbers (outcome answer) [] (code_of answer) []
  unfolding replied over
  told-code (Err refusal) = record { effect_is = λ items. sym (ap (effect-of no_numbers []) (refused refusal items)) }
  told-code (Ok n) = record { effect_is = λ items. sym (ap (effect-of no_numbers []) (given n items)) }

  -- and with the number
  pub told-number : (answer : Result ℕ Refusal) (out : List ℕ) (code : ℕ) (out' : List ℕ) → NumberTold answer out code out'
      → Told one_number (outcome answer) out code out'
  unfolding replied
  told-number (Err refusal) out code out' told =
      record {
        effect_is =
            λ items.
            ap₂ (λ (n : ℕ) (o : List ℕ). effect_of n items o) told.0 told.1 ∙ sym (ap (effect-of one_number out) (refused refusal items));
      }
  told-number (Ok n) out code out' told =
      record {
        effect_is =
            λ items.
            ap₂ (λ (n : ℕ) (o : List ℕ). effect_of n items o) told.0 told.1 ∙ sym (ap (effect-of one_number out) (given n items));
      }

-- a plan's verdict, as its code
pub verdict-told : (reading : Result Accepted Refusal) → code_of reading ≡ verdict_code (verdict_of reading)
unfolding verdict_code verdict_of
verdict-told (Err refusal) = refl
verdict-told (Ok plan) = refl
