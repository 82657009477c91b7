-- Laws of a deletion: which blocks go with a block.
-- Assumes nothing.
use mathlib.Core.Path.{◌≡◌, refl, ap, sym, ◌∙◌}
use mathlib.Core.Bool.{Bool, true, false}
use Prim.Native.Nat.{ℕ, zero, suc, ◌-◌, ◌<◌}
use native.Mathlib.Omega.{arith}
use Rattle.order.proofs.Booleans.{no-contradiction, or-false}
use Rattle.model.specs.Plan.{Plan, block_count, pairs_next, pairs_back, is_paired}
use Rattle.model.specs.Recordings.{first_gone, gone_count}
use Rattle.theory.specs.Refusal.{Shaped}

-- ── pairs_back ────────────────────────────────────────────────────────────────────────────────────
pub pairs_back-suc : (p : Plan) (i : ℕ) → pairs_back p (suc i) ≡ pairs_next p i
unfolding pairs_back
pairs_back-suc p i = refl

pub pairs_back-zero : (p : Plan) → pairs_back p 0 ≡ false
unfolding pairs_back
pairs_back-zero p = refl

-- the first block of a pair is not the second one of another
pub pairs_back-head : (p : Plan) → Shaped p → (i : ℕ) → i < block_count p → pairs_next p i ≡ true → pairs_back p i ≡ false
unfolding pairs_back
pairs_back-head p shaped zero l marked = refl
pairs_back-head p shaped (suc i) l marked = go (pairs_next p i) refl
  where
    go : (b : Bool) → pairs_next p i ≡ b → b ≡ false
    go true e = no-contradiction (sym marked ∙ (shaped.pair i (omega arith)).next-free e)
    go false e = refl

-- ── first_gone, gone_count ─────────────────────────────────────────────────────────────────────────
-- of the first block of a pair, of the second one, and of a block that has no partner
module _ (p : Plan) (i : ℕ) where
  pub first_gone-here : pairs_back p i ≡ false → first_gone p i ≡ i
  unfolding first_gone
  first_gone-here e = rw e

  pub first_gone-second : pairs_back p i ≡ true → first_gone p i ≡ i - 1
  unfolding first_gone
  first_gone-second e = rw e

  pub gone_count-paired : is_paired p i ≡ true → gone_count p i ≡ 2
  unfolding gone_count
  gone_count-paired e = rw e

  pub gone_count-single : is_paired p i ≡ false → gone_count p i ≡ 1
  unfolding gone_count
  gone_count-single e = rw e

pub first_gone-head : (p : Plan) → Shaped p → (i : ℕ) → i < block_count p → pairs_next p i ≡ true → first_gone p i ≡ i
first_gone-head p shaped i l marked = first_gone-here p i (pairs_back-head p shaped i l marked)

pub first_gone-single : (p : Plan) (i : ℕ) → is_paired p i ≡ false → first_gone p i ≡ i
unfolding is_paired
first_gone-single p i e = first_gone-here p i (or-false (pairs_next p i) (pairs_back p i) e).1
