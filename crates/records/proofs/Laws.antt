-- What records say of a plan's blocks.
-- Assumes nothing.
use mathlib.Core.Path.{◌≡◌, refl, sym, ◌∙◌}
use mathlib.Core.Bool.{true, false}
use mathlib.Core.List.{List}
use Prim.Native.Nat.{ℕ, zero, suc, ◌-◌, ◌<◌}
use native.Mathlib.Omega.{arith}
use borrow.Author.Tests.{eq-eqb, ne_eqb}
use Rattle.order.proofs.Searches.{first-none}
use Rattle.model.specs.Plan.{Plan, block_count, block_of, pairs_next, field, Format, block_in, plan_in}
use Rattle.model.specs.Refusal.{is_refusal, check17, pair_refusal, pairs_refusal}
use Rattle.theory.proofs.Plan.{plan_in-block_count, plan_in-block_of}
use Rattle.cluster.specs.Blocks.{link_of}
use Rattle.cluster.proofs.Laws.{link_of-first, link_of-back}
use Rattle.header.specs.Format.{as_format}
use Rattle.records.specs.Records.{RecordsOf}
use Rattle.records.specs.Files.{OfFile}
use Rattle.records.specs.declared.view.Records.{Records}

-- ── OfFile ─────────────────────────────────────────────────────────────────────────────────────────────────────────────

-- the records of a whole file are the plan's blocks
module _ (r : Records) (of : OfFile r) where
  pub records-count : r.blocks ≡ block_count (plan_in r.bytes.now)
  records-count = of.blocks-are ∙ sym (plan_in-block_count r.bytes.now)

  pub records-block : (i : ℕ) → i < r.blocks → block_of (plan_in r.bytes.now) i ≡ block_in (as_format r.format) r.bytes.now i
  records-block i l = rw of.format-is (plan_in-block_of r.bytes.now i (rw of.blocks-are at l))

  pub records-of : RecordsOf (plan_in r.bytes.now) (as_format r.format) r.bytes.now
  records-of i l = records-block i (rw records-count l)

  -- told of bytes that are the records' own
  module _ (bytes : List ℕ) (same : r.bytes.now ≡ bytes) where
    pub file-count : r.blocks ≡ block_count (plan_in bytes)
    file-count = rw same at records-count

    pub file-block : (i : ℕ) → i < r.blocks → block_in (as_format r.format) r.bytes.now i ≡ block_of (plan_in bytes) i
    file-block i l = sym (rw (← same) (records-block i l))

    pub file-of : RecordsOf (plan_in bytes) (as_format r.format) r.bytes.now
    file-of i l = rw (← same) (records-block i (rw (file-count) l))

-- ── RecordsOf ──────────────────────────────────────────────────────────────────────────────────────────────────────────

-- a pair byte that was read says whether its block is paired with the next one
module _ (p : Plan) (f : Format) (bytes : List ℕ) (of : RecordsOf p f bytes) (i byte : ℕ) (l : i < block_count p)
    (is : byte ≡ (block_in f bytes i).pair_byte) where
  pub marked_next : byte ≡ 1 → pairs_next p i ≡ true
  unfolding pairs_next
  marked_next e = rw (of i l) (eq-eqb _ 1 (sym is ∙ e))

  pub unmarked-next : (byte ≡ 1 → ⊥) → pairs_next p i ≡ false
  unfolding pairs_next
  unmarked-next d = rw (of i l) (ne_eqb _ 1 (λ e. d (is ∙ e)))

-- where the format has no pair byte, no block is paired, and check 17 passes
module _ (p : Plan) (f : Format) (bytes : List ℕ) (of : RecordsOf p f bytes) (without : f.pair_byte_width ≡ 0) where
  unpaired-byte : (i : ℕ) → i < block_count p → (block_of p i).pair_byte ≡ 0
  unfolding block_in field
  unpaired-byte i l = rw (of i l, without)

  unpaired-next : (i : ℕ) → i < block_count p → pairs_next p i ≡ false
  unfolding pairs_next
  unpaired-next i l = rw (unpaired-byte i l)

  pub unpaired-link : (i : ℕ) → i < block_count p → link_of p i ≡ 1
  unpaired-link zero l = link_of-first p (unpaired-next 0 l)
  unpaired-link (suc i) l =
      link_of-back p (suc i) (omega arith) (unpaired-next (suc i) l) ∙ (rw (unpaired-next (suc i - 1) (omega arith)))

  pub unpaired-refusal : pairs_refusal p ≡ 0
  unfolding pairs_refusal pair_refusal check17
  unpaired-refusal =
      first-none is_refusal 0 refl (pair_refusal p) (block_count p) (λ i l. rw (unpaired-byte i l))
