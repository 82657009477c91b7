-- Laws of pasted pieces: nothing pasted, one byte, and two pieces one after the other.
-- Assumes nothing.
use mathlib.Core.Path.{◌≡◌, refl, ap, ap₂, sym, ◌∙◌}
use mathlib.Core.List.{List, [], ◌∷◌, ◌++◌, append_assoc, append-nil}
use Prim.Native.Nat.{ℕ, suc, ◌+◌, ◌<◌, ◌≤◌}
use native.Mathlib.Nat.{zero-add, add-zero, add_assoc}
use native.Mathlib.Numerals.{add-one}
use native.Mathlib.Omega.{arith}
use lib.ListN.{length, get_or, take, drop, set, length-append, length-drop, take-append-drop}
use lib.Seq.{take_at, drop_at, length-take-le, drop-drop, take-suc, set_split, append_snoc}
use Rattle.order.specs.Table.{joined}
use Rattle.order.proofs.Tables.{joined_step, joined-prefix}
use Rattle.model.specs.Calls.{answered}
use Rattle.model.specs.Listing.{number_field, fields, line_end, line, wrote}
use Rattle.theory.proofs.Listing.{fields-append}
use Rattle.text.specs.Pasted.{pasted, Room, Put}

pub pasted-none : (at : ℕ) (old : List ℕ) → pasted at [] old ≡ old
unfolding pasted
pasted-none at old =
    ap₂ (λ (s : List ℕ) (n : ℕ). s ++ drop n old) (append-nil (take at old)) (add-zero at) ∙ take-append-drop at old

-- one byte stored
pub pasted-set : (at byte : ℕ) (old : List ℕ) → at < length old → set old at byte ≡ pasted at (byte ∷ []) old
unfolding pasted
pasted-set at byte old l = rw (add-one at) (set_split old at byte l ∙ sym (append_snoc (take at old) byte (drop (suc at) old)))

module _ (at : ℕ) (piece old : List ℕ) (room : Room at piece old) where
  head-length : length (take at old ++ piece) ≡ at + length piece
  head-length = length-append (take at old) piece ∙ ap (λ (n : ℕ). n + length piece) (length-take-le at old (omega arith))

  pub pasted_length : length (pasted at piece old) ≡ length old
  unfolding pasted
  pasted_length = rw (length-append, head-length, length-drop) (omega arith)

  -- two pieces, one after the other
  pub pasted-more : (later : List ℕ) → Room at (piece ++ later) old
      → pasted (at + length piece) later (pasted at piece old) ≡ pasted at (piece ++ later) old
  unfolding pasted
  pasted-more later more =
      let size : at + length piece + length later ≡ at + length (piece ++ later) = simp length-append (omega arith) in
      let tail = drop (at + length piece) old in
      ap₂ (λ (s t : List ℕ). s ++ later ++ t)
      (take_at (take at old ++ piece) tail (at + length piece) head-length)
      (sym (drop-drop (length later) (at + length piece) (take at old ++ piece ++ tail))
      ∙ ap (drop (length later)) (drop_at (take at old ++ piece) tail (at + length piece) head-length)
      ∙ drop-drop (length later) (at + length piece) old)
      ∙ ap₂ (λ (s : List ℕ) (n : ℕ). s ++ drop n old) (append_assoc (take at old) piece later) size

-- the same for what the writers say
pub put-none : (at : ℕ) (old : List ℕ) → Put at [] old old at
put-none at old = record { text-is = sym (pasted-none at old); next-is = sym (add-zero at) }

pub put-length : (at : ℕ) (piece old text : List ℕ) (next : ℕ) → Room at piece old → Put at piece old text next
    → length text ≡ length old
put-length at piece old text next room put = ap length put.text-is ∙ pasted_length at piece old room

-- a piece and a later one that fit together: each fits in its turn, and the two are put
module _ (at : ℕ) (piece later old : List ℕ) (room : Room at (piece ++ later) old) where
  pub room-first : Room at piece old
  room-first = let c = simp length-append at room.fits in record { fits = omega arith }

  pub room_next : (text : List ℕ) (next : ℕ) → Put at piece old text next → Room next later text
  room_next text next put =
      let a = put-length at piece old text next room-first put in
      let b = put.next-is in
      let c = simp length-append at room.fits in
      record { fits = omega arith }

  pub put_then : (text text' : List ℕ) (next next' : ℕ) → Put at piece old text next → Put next later text text' next'
      → Put at (piece ++ later) old text' next'
  put_then text text' next next' put then =
      let a = put.next-is in
      let b = then.next-is in
      record {
        text-is =
            then.text-is
            ∙ ap₂ (λ (n : ℕ) (s : List ℕ). pasted n later s) a put.text-is
            ∙ pasted-more at piece old room-first later room;
        next-is = simp length-append (omega arith);
      }

-- a byte stored, and a word byte by byte
pub put-set : (at byte : ℕ) (old : List ℕ) → Room at (byte ∷ []) old → Put at (byte ∷ []) old (set old at byte) (at + 1)
put-set at byte old room = record { text-is = pasted-set at byte old (omega arith); next-is = refl }

take-room : (at i : ℕ) (word old : List ℕ) → i ≤ length word → Room at word old → Room at (take i word) old
take-room at i word old l room = let e = length-take-le i word l in record { fits = omega arith }

pub word_more : (at i : ℕ) (word old text : List ℕ) → i < length word → Room at word old
    → Put at (take i word) old text (at + i)
    → Put at (take (i + 1) word) old (set text (at + i) (get_or word i 0)) (at + (i + 1))
word_more at i word old text l room put =
    let one = take-suc word i 0 l in
    let fits : Room at (take i word ++ get_or word i 0 ∷ []) old = rw (← one) (take-room at (suc i) word old l room) in
    let inside = room_next at (take i word) (get_or word i 0 ∷ []) old fits text (at + i) put in
    rw (← add_assoc at i 1, add-one i, one)
    (put_then at (take i word) (get_or word i 0 ∷ []) old fits text _ (at + i) _ put (put-set (at + i) (get_or word i 0) text inside))

-- fields, number by number
fields-none : fields [] ≡ []
unfolding fields
fields-none = refl

fields-more : (i : ℕ) (numbers : List ℕ) → i < length numbers
    → fields (take (i + 1) numbers) ≡ fields (take i numbers) ++ number_field (get_or numbers i 0)
unfolding fields
fields-more i numbers l =
    rw (add-one i, take-suc numbers i 0 l)
    (fields-append (take i numbers) (get_or numbers i 0 ∷ [])
    ∙ ap (λ (s : List ℕ). fields (take i numbers) ++ s) (append-nil (number_field (get_or numbers i 0))))

fields-prefix : (i : ℕ) (numbers : List ℕ) → length (fields (take i numbers)) ≤ length (fields numbers)
fields-prefix i numbers =
    let e = ap (λ (s : List ℕ). length (fields s)) (take-append-drop i numbers) in
    let parts = ap length (fields-append (take i numbers) (drop i numbers)) in
    let sizes = length-append (fields (take i numbers)) (fields (drop i numbers)) in
    omega arith

pub fields-start : (at : ℕ) (old : List ℕ) → Put at (fields []) old old at
fields-start at old = rw fields-none (put-none at old)

module _ (at i : ℕ) (numbers old : List ℕ) (l : i < length numbers) (room : Room at (fields numbers) old) where
  both-room : Room at (fields (take i numbers) ++ number_field (get_or numbers i 0)) old
  both-room =
      let short = fields-prefix (i + 1) numbers in
      record { fits = rw (← fields-more i numbers l) (omega (arith, room.fits)) }

  pub field_room : (text : List ℕ) (next : ℕ) → Put at (fields (take i numbers)) old text next
      → Room next (number_field (get_or numbers i 0)) text
  field_room text next put = room_next at (fields (take i numbers)) _ old both-room text next put

  pub field_put : (text text' : List ℕ) (next next' : ℕ) → Put at (fields (take i numbers)) old text next
      → Put next (number_field (get_or numbers i 0)) text text' next' → Put at (fields (take (i + 1) numbers)) old text' next'
  field_put text text' next next' put then =
      rw (fields-more i numbers l) (put_then at (fields (take i numbers)) _ old both-room text text' next next' put then)

-- a text written from its first byte on, as an outcome
pub put-wrote : (out old text : List ℕ) (next : ℕ) → Put 0 out old text next → record { answer = answered next; items = text } ≡ wrote out old
unfolding wrote pasted
put-wrote out old text next put =
    let size : next ≡ length out = put.next-is ∙ zero-add (length out) in
    let items : text ≡ out ++ drop (length out) old = put.text-is ∙ ap (λ (n : ℕ). out ++ drop n old) (zero-add (length out)) in
    λ i. record { answer = answered (size i); items = items i }

-- pieces one after the other: those before piece i, and its own
module _ (at n i : ℕ) (f : ℕ → List ℕ) (old : List ℕ) (room : Room at (joined n f) old) (l : i < n) where
  joined-both : Room at (joined i f ++ f i) old
  joined-both = record { fits = rw (← joined_step i f) (omega (arith, joined-prefix n f (i + 1) (omega arith), room.fits)) }

  pub joined-room : {text : List ℕ} {next : ℕ} → Put at (joined i f) old text next → Room next (f i) text
  joined-room {text} {next} put = room_next at (joined i f) (f i) old joined-both text next put

  pub joined-put : {text text' : List ℕ} {next next' : ℕ} → Put at (joined i f) old text next → Put next (f i) text text' next'
      → Put at (joined (i + 1) f) old text' next'
  joined-put {text} {text'} {next} {next'} put then =
      rw (joined_step i f) (put_then at (joined i f) (f i) old joined-both text text' next next' put then)

-- a line: its word, its fields, its end
module _ (at : ℕ) (word numbers old : List ℕ) (room : Room at (line word numbers) old) where
  front-room : Room at (word ++ fields numbers) old
  unfolding line
  front-room = room-first at (word ++ fields numbers) line_end old room

  pub word_room : Room at word old
  word_room = room-first at word (fields numbers) old front-room

  module _ {text₁ : List ℕ} {next₁ : ℕ} (named : Put at word old text₁ next₁) where
    pub fields-room : Room next₁ (fields numbers) text₁
    fields-room = room_next at word (fields numbers) old front-room text₁ next₁ named

    module _ {text₂ : List ℕ} {next₂ : ℕ} (listed : Put next₁ (fields numbers) text₁ text₂ next₂) where
      front : Put at (word ++ fields numbers) old text₂ next₂
      front = put_then at word (fields numbers) old front-room text₁ text₂ next₁ next₂ named listed

      pub end-room : Room next₂ line_end text₂
      unfolding line
      end-room = room_next at (word ++ fields numbers) line_end old room text₂ next₂ front

      pub end-put : {text₃ : List ℕ} {next₃ : ℕ} → Put next₂ line_end text₂ text₃ next₃ → Put at (line word numbers) old text₃ next₃
      unfolding line
      end-put {text₃} {next₃} ended = put_then at (word ++ fields numbers) line_end old room text₂ text₃ next₂ next₃ front ended
