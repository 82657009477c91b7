-- What the codes tell apart: 0 is returned exactly if there is an answer and room for it, any other code is a row of the table or that of a short buffer.
use Rattle.std.specs.Prelude.{◌≡◌, ◌⊎◌, ◌↔◌, List, [], ℕ, ◌≤◌, length}
use Rattle.model.specs.Plan.{Plan}
use Rattle.model.specs.Refusal.{accepted, judge, verdict_code}
use Rattle.model.specs.Calls.{Answer, answered, OutcomeOver, counts_call, first_call, check_call, report_call, step_call, run_call}
use Rattle.model.specs.Listing.{listing_call}
use Rattle.model.specs.Conversion.{convert_call}
use Rattle.model.specs.declared.Entry.{Entry}
use Rattle.model.specs.ReadLog.{read_call, popularity_call}
use Rattle.interface.specs.Interface.{short_out, effect, no_numbers, report_numbers, step_numbers, run_numbers, one_number}

-- The last row of the table of refusals.
abbrev pub last_row : ℕ
last_row = 23

-- The code of a refusal.
pub record RefusalCode (code : ℕ) : Type 0 where
  pub some : 1 ≤ code
  pub row : (code ≤ last_row) ⊎ (code ≡ short_out)

-- There is an answer, and `out` has room for its numbers.
pub record Done {A : Type 0} (need : ℕ) (out : List ℕ) (answer : Answer A) : Type 0 where
  pub room : need ≤ length out
  pub given : (a : A) × (answer ≡ answered a)

pub record Tells {A : Type 0} (need : ℕ) (out : List ℕ) (answer : Answer A) (code : ℕ) : Type 0 where
  pub known : (code ≡ 0) ⊎ RefusalCode code
  pub done : (code ≡ 0) ↔ Done need out answer

abbrev pub EffectTells : {I A : Type 0} → ℕ → (A → List ℕ) → List I → List ℕ → OutcomeOver I A → Type 0
EffectTells need numbers items out call = Tells need out call.answer (effect need numbers items out call).code

-- Of every exported function that makes one call. Playing a script is never refused: it is short of `out`, or done.
pub record CodeLaws (plan items out : List ℕ) (limit : ℕ) : Type 0 where
  pub plan-known : (verdict_code (judge plan) ≡ 0) ⊎ RefusalCode (verdict_code (judge plan))
  pub plan-done : (verdict_code (judge plan) ≡ 0) ↔ ((p : Plan) × (judge plan ≡ accepted p))
  pub counts-tells : EffectTells 0 no_numbers items [] (counts_call plan items)
  pub first-tells : EffectTells 0 no_numbers items [] (first_call plan items)
  pub check-tells : EffectTells 0 no_numbers items [] (check_call plan items)
  pub report-tells : EffectTells 4 report_numbers items out (report_call plan items)
  pub step-tells : EffectTells 6 step_numbers items out (step_call plan items)
  pub run-tells : EffectTells 2 run_numbers items out (run_call plan items limit)
  pub listing-tells : EffectTells 1 one_number items out (listing_call plan limit items)
  pub convert-tells : EffectTells 1 one_number items out (convert_call plan items)

-- Whatever a call is lent.
abbrev pub Codes : Type 0
Codes = (plan items out : List ℕ) (limit : ℕ) → CodeLaws plan items out limit

-- Of the exported functions on reads.
pub record ReadCodeLaws (plan : List ℕ) (list : List Entry) (out : List ℕ) (block tick count : ℕ) : Type 0 where
  pub read-tells : EffectTells 1 one_number list out (read_call plan block tick list count)
  pub popularity-tells : EffectTells 1 one_number list out (popularity_call plan block list count)

abbrev pub ReadCodes : Type 0
ReadCodes = (plan : List ℕ) (list : List Entry) (out : List ℕ) (block tick count : ℕ) → ReadCodeLaws plan list out block tick count
