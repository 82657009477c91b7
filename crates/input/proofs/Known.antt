-- Where it is known what a reader gives, what came of it tells the whole input.
-- Assumes nothing.
use Rattle.std.proofs.Common.{◌≡◌, ◌≢◌, ℕ, ◌<◌, ◌≤◌, List, [], ◌++◌, None, Some, IfSome, arith, length, take, true, sym, ap, ◌∙◌, append-nil, take_all, length-take-le}
use native.Mathlib.Decide.{ℕ_discrete}
use borrow.Author.Tests.{ltb-true}
use lib.Seq.{take-append-le}
use Rattle.std.specs.Io.KnownBytes.{Consumes, IsAtEnd}
use Rattle.std.specs.declared.option.Option.{Option}
use Rattle.model.specs.Listing.{input_room}
use Rattle.input.specs.Input.{failed_by}

-- a full buffer is what the input begins with; a short count is all of it
told : (whole rest bytes : List ℕ) (size : ℕ) → length bytes ≡ input_room → size ≤ input_room → whole ≡ take size bytes ++ rest
    → (size < input_room → rest ≡ []) → take size bytes ≡ take input_room whole
told whole rest bytes size room within came ended = elim (ℕ_discrete size input_room) [
  | yes full ↦
      let all : take size bytes ≡ bytes = take_all size bytes (omega arith) in
      let front : take input_room (bytes ++ rest) ≡ bytes = take-append-le input_room bytes rest (omega arith) ∙ take_all input_room bytes (omega arith) in
      all ∙ sym (ap (take input_room) (came ∙ ap (λ l. l ++ rest) all) ∙ front)
  | no short ↦
      let over : rest ≡ [] = ended (omega arith) in
      let all : whole ≡ take size bytes = came ∙ ap (λ l. take size bytes ++ l) over ∙ append-nil (take size bytes) in
      let few : length whole ≤ input_room = omega (arith, ap length all, length-take-le size bytes (omega arith)) in
      sym (take_all input_room whole few ∙ all)
]

-- neither a full buffer nor an end that is seen tells of a failed read
never : (rest : List ℕ) (size : ℕ) (next : Option ℕ) → size ≤ input_room → (size < input_room → rest ≡ []) → (size ≡ input_room → next ≡ None)
    → (rest ≡ [] → size ≢ input_room → next ≡ Some 0) → failed_by size next ≡ true → ⊥
unfolding failed_by
never rest size next within ended full answer failed = elim (ℕ_discrete size input_room) [
  | yes same ↦ let below : size < input_room = ltb-true size input_room (sym (ap (failed_by size) (full same)) ∙ failed) in omega arith
  | no short ↦ let more : 0 < 0 = ltb-true 0 0 (sym (ap (failed_by size) (answer (ended (omega arith)) short)) ∙ failed) in omega arith
]

pub known-whole : (old new : Option (List ℕ)) (bytes : List ℕ) (size : ℕ) → length bytes ≡ input_room → size ≤ input_room
    → Consumes old new (take size bytes) → (size < input_room → IsAtEnd new)
    → IfSome old (λ whole. take size bytes ≡ take input_room whole)
known-whole None new bytes size room within came ended = tt
known-whole (Some whole) None bytes size room within came ended = absurd came
known-whole (Some whole) (Some rest) bytes size room within came ended = told whole rest bytes size room within came ended

-- reads that say that one failed are not those of a reader with known bytes
pub known-none : (old new : Option (List ℕ)) (bytes : List ℕ) (size : ℕ) (next : Option ℕ) → size ≤ input_room → Consumes old new (take size bytes)
    → (size < input_room → IsAtEnd new) → (size ≡ input_room → next ≡ None)
    → IfSome new (λ rest. rest ≡ [] → size ≢ input_room → next ≡ Some 0) → failed_by size next ≡ true → IfSome old (λ whole. ⊥)
known-none None new bytes size next within came ended full answer failed = tt
known-none (Some whole) None bytes size next within came ended full answer failed = absurd came
known-none (Some whole) (Some rest) bytes size next within came ended full answer failed = never rest size next within ended full answer failed

-- after a full buffer no read is made
pub full-answer : (left : Option (List ℕ)) (size : ℕ) (next : Option ℕ) → size ≡ input_room
    → IfSome left (λ rest. rest ≡ [] → size ≢ input_room → next ≡ Some 0)
full-answer None size next e = tt
full-answer (Some rest) size next e = λ _ d. absurd (d e)
