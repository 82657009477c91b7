-- A call on the words lent, as the model's call on all of them; and the calls of a script, one after the other.
-- Assumes nothing.
use mathlib.Core.Path.{◌≡◌, refl, ap, ◌∙◌}
use mathlib.Core.List.{List, ◌++◌}
use Prim.Native.Nat.{ℕ, zero, suc, ◌+◌, ◌<◌, ◌≤◌, min}
use native.Mathlib.Decide.{dec_le}
use native.Mathlib.Nat.{min-eq_left, min-eq_right}
use native.Mathlib.Numerals.{add-one}
use native.Mathlib.Omega.{arith}
use lib.ListN.{length, get_or, take, drop, drop_of_length-le}
use lib.Seq.{take-length, drop-length, take_all, drop-cons}
use Rattle.std.specs.Prelude.{Result, Ok}
use Rattle.refusal.specs.declared.Refusal.{Refusal}
use Rattle.model.specs.Steps.{Step}
use Rattle.model.specs.Calls.{Outcome, RunReply, check_call, step_call, run_call}
use Rattle.model.specs.Claims.{ask_check, ask_step, ask_run, checked, stepped, ran, Played, played, respond, does, play}
use Rattle.theorems.proofs.Claim.{claim}
use Rattle.script.specs.declared.Reply.{Reply}
use Rattle.script.specs.declared.Reply.TheVariants.{Checked}
use Rattle.script.specs.Script.{source_of, lent_of, request_of, request_in, source_bytes, call_with, call_of, calls_of, reply_is, played_by}
use Rattle.script.specs.Promise.{ScriptPlayed}

-- taking and dropping so many, or as many as there are
take-fewer : (lent : ℕ) (words : List ℕ) → take (min lent (length words)) words ≡ take lent words
take-fewer lent words =
    elim (dec_le lent (length words)) [
      | yes l ↦ rw (min-eq_left l)
      | no l ↦ let more : length words ≤ lent = omega arith in rw (min-eq_right more, take-length words, take_all lent words more)
    ]

drop-fewer : (lent : ℕ) (words : List ℕ) → drop (min lent (length words)) words ≡ drop lent words
drop-fewer lent words =
    elim (dec_le lent (length words)) [
      | yes l ↦ rw (min-eq_left l)
      | no l ↦ let more : length words ≤ lent = omega arith in rw (min-eq_right more, drop-length words, drop_of_length-le words more)
    ]

-- an entry's outcome, as the reply to its request
module _ (bytes words : List ℕ) where
  pub respond-check : (out : Outcome ℕ) → out ≡ check_call bytes words
      → played (λ n. checked) out ≡ respond ask_check bytes words
  unfolding respond
  respond-check out e = ap (played (λ n. checked)) e

  pub respond-step : (out : Outcome Step) → out ≡ step_call bytes words → played stepped out ≡ respond ask_step bytes words
  unfolding respond
  respond-step out e = ap (played stepped) e

  pub respond-run : (limit : ℕ) (out : Outcome RunReply) → out ≡ run_call bytes words limit
      → played ran out ≡ respond (ask_run limit) bytes words
  unfolding respond
  respond-run limit out e = ap (played ran) e

-- a call on a part of the words, which leaves those past it
pub does-part : (bytes : List ℕ) (item : ℕ) (words : List ℕ) (n : ℕ) (out : Played) → n ≡ min (lent_of item) (length words)
    → out ≡ respond (request_in item) bytes (take n words)
    → record { reply = out.reply; words = out.words ++ drop n words } ≡ does (call_with bytes item) words
unfolding does
does-part bytes item words n out fewer e =
    rw (e, fewer, take-fewer (lent_of item) words, drop-fewer (lent_of item) words)

-- the calls from item i on, played from the reply and the words there, end as the whole script does
module _ (bytes other script before : List ℕ) where
  abbrev pub Left : Result Reply Refusal → List ℕ → ℕ → Type 0
  Left reply words i = play (reply_is reply) (calls_of bytes other (drop i script)) words ≡ play checked (calls_of bytes other script) before

  pub left-first : Left (Ok Checked) before 0
  unfolding reply_is
  left-first = refl

  pub left-more : (reply next : Result Reply Refusal) (words later : List ℕ) (i : ℕ) → i < length script
      → played_by next later ≡ does (call_of bytes other (get_or script i 0)) words → Left reply words i → Left next later (i + 1)
  unfolding calls_of play
  left-more reply next words later i l e left =
      rw (add-one i) (
      (λ j. play (e j).reply (calls_of bytes other (drop (suc i) script)) (e j).words)
      ∙ (rw (drop-cons script i 0 l) at left))

  left_end : (reply : Result Reply Refusal) (words : List ℕ) (i : ℕ) → length script ≤ i → Left reply words i
      → played_by reply words ≡ play checked (calls_of bytes other script) before
  unfolding calls_of play
  left_end reply words i l left = rw (drop_of_length-le script l) at left

  -- the script is played: the model's play, and so the claim
  pub script-played : (reply : Result Reply Refusal) (words : List ℕ) (i : ℕ) → length script ≤ i → Left reply words i
      → ScriptPlayed bytes other script before reply words
  script-played reply words i l left =
      let same = left_end reply words i l left in
      record {
        equal = same;
        claimed = λ p reads feasible allowed.
            rw same (claim bytes p reads before feasible (calls_of bytes other script) allowed);
      }

-- the request of a kind that a test found
module _ (bytes words : List ℕ) (limit : ℕ) {out : Played} where
  pub kind-zero : (kind : ℕ) → kind ≡ 0 → out ≡ respond ask_check bytes words → out ≡ respond (request_of kind limit) bytes words
  unfolding request_of
  kind-zero kind e same = rw e same

  pub kind-one : (kind : ℕ) → kind ≡ 1 → out ≡ respond ask_step bytes words → out ≡ respond (request_of kind limit) bytes words
  unfolding request_of
  kind-one kind e same = rw e same

  pub kind-more : (kind : ℕ) → (kind ≡ 0 → ⊥) → (kind ≡ 1 → ⊥) → out ≡ respond (ask_run limit) bytes words
      → out ≡ respond (request_of kind limit) bytes words
  unfolding request_of
  kind-more zero a b same = absurd (a refl)
  kind-more (suc zero) a b same = absurd (b refl)
  kind-more (suc (suc kind)) a b same = same

-- the bytes of a source that a test found
source-zero : (source : ℕ) (bytes other : List ℕ) → source < 2 → (source ≡ 1 → ⊥) → source_bytes source bytes other ≡ bytes
unfolding source_bytes
source-zero zero bytes other l d = refl
source-zero (suc source) bytes other l d = absurd (d (omega arith))

module _ (bytes other words : List ℕ) (item : ℕ) {out : Played} where
  pub from-other : source_of item ≡ 1 → out ≡ does (call_with other item) words
      → out ≡ does (call_of bytes other item) words
  unfolding call_of source_bytes
  from-other e same = rw e same

  pub from-plan : (source_of item ≡ 1 → ⊥) → out ≡ does (call_with bytes item) words
      → out ≡ does (call_of bytes other item) words
  unfolding call_of
  from-plan d same = rw (source-zero (source_of item) bytes other (omega arith) d) same
