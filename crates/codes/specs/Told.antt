-- What an exported function tells of an entry's answer: the code returned, and `out` at exit.
use Rattle.std.specs.Prelude.{◌≡◌, List, ℕ, Result, Ok, Err}
use Rattle.model.specs.Calls.{OutcomeOver, Outcome, answered}
use Rattle.model.specs.Claims.{Reply}
use Rattle.refusal.specs.declared.Refusal.{Refusal}
use Rattle.refusal.specs.Rows.{number_of}
use Rattle.interface.specs.Interface.{effect_of, over, one_number, replied}

-- The code and `out` at exit are the outcome's, whatever items the call left.
pub record Told {I A : Type 0} (numbers : A → List ℕ) (outcome : List I → OutcomeOver I A) (out : List ℕ) (code : ℕ) (out' : List ℕ) : Type 0 where
  pub effect_is : (items : List I) → effect_of code items out' ≡ replied numbers (outcome items).answer (outcome items).items out

-- An answer of one number: 0 and the number over `out`, or the refusal's number and `out` as it was.
abbrev pub NumberTold : Result ℕ Refusal → List ℕ → ℕ → List ℕ → Type 0
NumberTold (Err refusal) out code out' = (code ≡ number_of refusal) × (out' ≡ out)
NumberTold (Ok number) out code out' = (code ≡ 0) × (out' ≡ over (one_number number) out)

-- A script's last reply, as the outcome of its play.
abbrev pub reply_outcome : Reply → List ℕ → Outcome Reply
reply_outcome reply words = record { answer = answered reply; items = words }
