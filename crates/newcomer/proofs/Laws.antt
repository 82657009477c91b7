-- Laws of row 24: what a code says, and the upper count of a block that would come.
-- Assumes nothing.
use mathlib.Core.Path.{◌≡◌, refl, ap₂, ◌∙◌}
use mathlib.Core.Bool.{true, false}
use Prim.Native.Nat.{ℕ, ◌≤◌}
use native.Mathlib.Nat.{le_refl}
use Rattle.std.proofs.Common.{Result, Ok, Err}
use Rattle.std.specs.Result.{is_err}
use Rattle.refusal.specs.declared.Refusal.{Refusal}
use Rattle.refusal.specs.Rows.{code_of}
use Rattle.refusal.proofs.Laws.{number_of-pos}
use Rattle.model.specs.Plan.{Block, Plan, domains, block_count, upper}
use Rattle.model.specs.Refusal.{check8, check9}
use Rattle.model.specs.Recordings.{plan_with, entries_refusal}
use Rattle.theory.specs.Refusal.{Shaped}
use Rattle.theory.proofs.Plan.{pairs_back-end}
use Rattle.theory.proofs.Arrivals.{plan_with-pairs_back, plan_with-pairs_next-new, plan_with-upper-new}
use Rattle.cluster.specs.Blocks.{link_of}

-- ── code_of ──────────────────────────────────────────────────────────────────────────────────────

-- a check passes exactly where its code is 0
pub code_of-refused : (r : Result Unit Refusal) → is_err r ≡ true → 1 ≤ code_of r
code_of-refused (Ok passed) e = absurd (cc)
code_of-refused (Err refusal) e = number_of-pos refusal

pub code_of-passed : (r : Result Unit Refusal) → is_err r ≡ false → code_of r ≡ 0
code_of-passed (Ok passed) e = refl
code_of-passed (Err refusal) e = absurd (cc)

-- ── entries_refusal ───────────────────────────────────────────────────────────────────────────────

-- a block that would come has no partner, and the upper count of such blocks
module _ (p : Plan) (shaped : Shaped p) (b : Block) (unpaired : b.pair_byte ≡ 0) where
  pub link_of-new : 1 ≡ link_of (plan_with b p) (block_count p)
  unfolding link_of
  link_of-new =
      rw (plan_with-pairs_next-new b p shaped unpaired, plan_with-pairs_back b p (block_count p) (le_refl (block_count p)), pairs_back-end p shaped)

  pub entries-are : (most feeds : ℕ) → most ≡ upper (plan_with b p) (block_count p) → feeds ≡ domains p
      → check8 most b.min_replicas (check9 feeds b.min_replicas b.min_domains 0) ≡ entries_refusal p b
  unfolding entries_refusal
  entries-are most feeds most-is feeds-is =
      ap₂ (λ (m d : ℕ). check8 m b.min_replicas (check9 d b.min_replicas b.min_domains 0))
      (most-is ∙ plan_with-upper-new b p shaped unpaired) feeds-is
