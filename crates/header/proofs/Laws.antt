-- What rows 6 and 7 say of a file that is shorter than its header.
-- Assumes nothing.
use mathlib.Core.Path.{◌≡◌, ap, sym, ◌∙◌}
use mathlib.Core.List.{List}
use Prim.Native.Nat.{ℕ, ◌<◌, ◌≤◌}
use native.Mathlib.Decide.{dec_lt}
use native.Mathlib.Omega.{arith}
use borrow.Author.Tests.{lt-ltb, le-ltb, ne_eqb}
use lib.ListN.{length}
use Rattle.model.specs.Plan.{Format, format_in, block_count_in, header_length, record_at}
use Rattle.model.specs.Refusal.{max_blocks, check6, check7}
use Rattle.theory.proofs.Refusal.{check6-short}
use Rattle.header.specs.Header.{counted_blocks}

-- ── counted_blocks ────────────────────────────────────────────────────────────────────────────────────────────────────────────

-- where its bytes are there, it is B; where one is missing, it is not above the limit, and rows 6 and 7 judge alike by either
module _ (bytes : List ℕ) where
  pub counted_blocks-long : header_length (format_in bytes) ≤ length bytes → counted_blocks bytes ≡ block_count_in bytes
  unfolding counted_blocks
  counted_blocks-long l = rw (le-ltb (length bytes) (header_length (format_in bytes)) l)

  counted_blocks-short : length bytes < header_length (format_in bytes) → counted_blocks bytes ≡ 0
  unfolding counted_blocks
  counted_blocks-short l = rw (lt-ltb (length bytes) (header_length (format_in bytes)) l)

  pub counted_blocks-counted : (f : Format) (count : ℕ) → f ≡ format_in bytes → count ≡ counted_blocks bytes
      → length bytes < header_length f → count ≤ max_blocks
  counted_blocks-counted f count same is l = omega (arith, is, counted_blocks-short (rw same at l))

  -- the code of rows 6 and 7 for so many blocks
  abbrev rows : ℕ → ℕ → ℕ
  rows later count = check6 (format_in bytes) (length bytes) count (check7 (format_in bytes) (length bytes) count later)

  -- a file that is shorter than its header passes 6 and gets 7
  rows_short : length bytes < header_length (format_in bytes) → (later count : ℕ) → rows later count ≡ 7
  unfolding check7
  rows_short l later count =
      check6-short (format_in bytes) (length bytes) count _ l
      ∙ (rw (ne_eqb (length bytes) (record_at (format_in bytes) count) (λ e. omega arith)))

  pub counted_blocks-rows : (later : ℕ) → rows later (block_count_in bytes) ≡ rows later (counted_blocks bytes)
  counted_blocks-rows later = elim (dec_lt (length bytes) (header_length (format_in bytes))) [
    | yes short ↦ rows_short short later (block_count_in bytes) ∙ sym (rows_short short later (counted_blocks bytes))
    | no long ↦ ap (rows later) (sym (counted_blocks-long (omega arith)))
  ]
