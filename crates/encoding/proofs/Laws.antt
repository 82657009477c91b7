-- Laws of the pieces of a plan's file.
-- Assumes nothing.
use mathlib.Core.Path.{◌≡◌, sym, subst}
use mathlib.Core.List.{List, [], ◌∷◌}
use Prim.Native.Nat.{ℕ}
use Rattle.order.specs.Table.{joined}
use Rattle.model.specs.Plan.{Block, Format}
use Rattle.model.specs.Writing.{record_bytes}
use Rattle.text.specs.Pasted.{Room, Put}
use Rattle.encoding.specs.Pieces.{numbers_bytes}

-- ── Room and Put ───────────────────────────────────────────────────────────────────────────────────────────────────────

-- of equal pieces
pub room-same : {at : ℕ} {a b text : List ℕ} → a ≡ b → Room at b text → Room at a text
room-same {at} {a} {b} {text} e room = subst (λ (piece : List ℕ). Room at piece text) (sym e) room

pub put_same : {at next : ℕ} {a b old text : List ℕ} → a ≡ b → Put at a old text next → Put at b old text next
put_same {at} {next} {a} {b} {old} {text} e put = subst (λ (piece : List ℕ). Put at piece old text next) e put

-- ── record_bytes ────────────────────────────────────────────────────────────────────────────────────────────────────────

-- a block's numbers in the widths of a format are its record
pub record_bytes-numbers : (f : Format) (b : Block) (popularity least spread pair : ℕ)
    → popularity ≡ b.popularity → least ≡ b.min_replicas → spread ≡ b.min_domains → pair ≡ b.pair_byte
    → numbers_bytes (f.popularity_width ∷ f.min_replicas_width ∷ f.min_domains_width ∷ f.pair_byte_width ∷ []) (popularity ∷ least ∷ spread ∷ pair ∷ [])
    ≡ record_bytes f b
unfolding numbers_bytes joined record_bytes
record_bytes-numbers f b popularity least spread pair e₁ e₂ e₃ e₄ = rw (e₁, e₂, e₃, e₄)
