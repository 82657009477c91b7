-- The pieces of a line one behind the other, and the machines of a word one by one.
-- Assumes nothing.
use mathlib.Core.Path.{◌≡◌, ap, sym, ◌∙◌}
use mathlib.Core.List.{List, [], ◌∷◌, ◌++◌, append_assoc, append-nil}
use Prim.Native.Nat.{ℕ, ◌-◌, ◌^◌}
use Rattle.model.specs.Refusal.{max_machines}
use Rattle.model.specs.Listing.{number_field, fields, line_end, line, block_word, holders}
use Rattle.theory.proofs.Listing.{fields-append, holders-zero, holders-low}
use Rattle.bits.specs.Words.{Lowest}
use Rattle.text.specs.Pasted.{Room, Put}
use Rattle.text.proofs.Laws.{room-first, room_next, put_then}
use Rattle.lines.specs.Rows.{number_row}

-- the lowest machine's field first, then those of the word without it
pub fields-low : (rest m : ℕ) → Lowest rest m
    → fields (holders rest max_machines) ≡ number_field m ++ fields (holders (rest - 2 ^ m) max_machines)
unfolding fields
fields-low rest m low = ap fields (holders-low rest m low.on low.first max_machines low.below)

-- one machine's field, after those that stand already
module _ (at word rest m : ℕ) (done old : List ℕ) (room : Room at (fields (holders word max_machines)) old) (low : Lowest rest m)
    (parts : done ++ fields (holders rest max_machines) ≡ fields (holders word max_machines)) where
  pub holder-parts : (done ++ number_field m) ++ fields (holders (rest - 2 ^ m) max_machines) ≡ fields (holders word max_machines)
  holder-parts =
      append_assoc done (number_field m) (fields (holders (rest - 2 ^ m) max_machines))
      ∙ ap (λ (s : List ℕ). done ++ s) (sym (fields-low rest m low))
      ∙ parts

  both-room : Room at (done ++ number_field m) old
  both-room = room-first at (done ++ number_field m) (fields (holders (rest - 2 ^ m) max_machines)) old (rw holder-parts room)

  pub holder-room : {text : List ℕ} {next : ℕ} → Put at done old text next → Room next (number_field m) text
  holder-room {text} {next} put = room_next at done (number_field m) old both-room text next put

  pub holder-put : {text text' : List ℕ} {next next' : ℕ} → Put at done old text next → Put next (number_field m) text text' next'
      → Put at (done ++ number_field m) old text' next'
  holder-put {text} {text'} {next} {next'} put then = put_then at done (number_field m) old both-room text text' next next' put then

pub holders-done : (done : List ℕ) → done ++ fields (holders 0 max_machines) ≡ done
unfolding fields
holders-done done = rw (holders-zero max_machines) (append-nil done)

-- a block line: its word, its three numbers, its machines, its end
module _ (at i count share word : ℕ) (old : List ℕ) (room : Room at (number_row i count share word) old) where
  row-pieces : number_row i count share word
      ≡ (block_word ++ fields (i ∷ count ∷ share ∷ [])) ++ fields (holders word max_machines) ++ line_end
  unfolding number_row line
  row-pieces =
      ap (λ (s : List ℕ). block_word ++ s ++ line_end) (fields-append (i ∷ count ∷ share ∷ []) (holders word max_machines))
      ∙ ap (λ (s : List ℕ). s ++ line_end) (sym (append_assoc block_word (fields (i ∷ count ∷ share ∷ [])) (fields (holders word max_machines))))

  all_room : Room at ((block_word ++ fields (i ∷ count ∷ share ∷ [])) ++ fields (holders word max_machines) ++ line_end) old
  all_room = rw row-pieces at room

  held-room : Room at ((block_word ++ fields (i ∷ count ∷ share ∷ [])) ++ fields (holders word max_machines)) old
  held-room = room-first at _ line_end old all_room

  front-room : Room at (block_word ++ fields (i ∷ count ∷ share ∷ [])) old
  front-room = room-first at _ (fields (holders word max_machines)) old held-room

  pub block_room : Room at block_word old
  block_room = room-first at block_word (fields (i ∷ count ∷ share ∷ [])) old front-room

  module _ {text₁ : List ℕ} {next₁ : ℕ} (named : Put at block_word old text₁ next₁) where
    pub three-room : Room next₁ (fields (i ∷ count ∷ share ∷ [])) text₁
    three-room = room_next at block_word (fields (i ∷ count ∷ share ∷ [])) old front-room text₁ next₁ named

    module _ {text₂ : List ℕ} {next₂ : ℕ} (listed : Put next₁ (fields (i ∷ count ∷ share ∷ [])) text₁ text₂ next₂) where
      front : Put at (block_word ++ fields (i ∷ count ∷ share ∷ [])) old text₂ next₂
      front = put_then at block_word _ old front-room text₁ text₂ next₁ next₂ named listed

      pub machines-room : Room next₂ (fields (holders word max_machines)) text₂
      machines-room = room_next at _ (fields (holders word max_machines)) old held-room text₂ next₂ front

      module _ {text₃ : List ℕ} {next₃ : ℕ} (held : Put next₂ (fields (holders word max_machines)) text₂ text₃ next₃) where
        body : Put at ((block_word ++ fields (i ∷ count ∷ share ∷ [])) ++ fields (holders word max_machines)) old text₃ next₃
        body = put_then at _ (fields (holders word max_machines)) old held-room text₂ text₃ next₂ next₃ front held

        pub block-end : Room next₃ line_end text₃
        block-end = room_next at _ line_end old all_room text₃ next₃ body

        pub block-put : {text₄ : List ℕ} {next₄ : ℕ} → Put next₃ line_end text₃ text₄ next₄
            → Put at (number_row i count share word) old text₄ next₄
        block-put {text₄} {next₄} ended =
            rw row-pieces (put_then at _ line_end old all_room text₃ text₄ next₃ next₄ body ended)
