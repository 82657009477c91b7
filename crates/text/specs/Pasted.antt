-- A piece written into a text.
use Rattle.std.specs.Prelude.{◌≡◌, List, ◌++◌, ℕ, ◌+◌, ◌≤◌, length, take, drop}
use Rattle.model.specs.Refusal.{max_blocks}

-- The text with the piece from position `at` on; the bytes before and behind it stay.
unfoldable pub pasted : ℕ → List ℕ → List ℕ → List ℕ
pasted at piece old = take at old ++ piece ++ drop (at + length piece) old

-- The piece fits in the text from `at` on.
pub record Room (at : ℕ) (piece text : List ℕ) : Type 0 where
  pub fits : at + length piece ≤ length text

-- Few numbers, whose piece fits.
pub record PiecesAsked (at : ℕ) (piece numbers text : List ℕ) : Type 0 where
  pub room : Room at piece text
  pub numbers-max : length numbers ≤ max_blocks

-- The text at exit has the piece pasted, and `next` is the position past it.
pub record Put (at : ℕ) (piece old text : List ℕ) (next : ℕ) : Type 0 where
  pub text-is : text ≡ pasted at piece old
  pub next-is : next ≡ at + length piece
