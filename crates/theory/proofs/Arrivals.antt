-- Laws of an arrival: the plan with the new block, the machines with a free place, and the words of its copies, one after the other.
-- Assumes nothing.
use mathlib.Core.Path.{◌≡◌, refl, ap, ap₂, ◌∙◌}
use mathlib.Core.Bool.{Bool, true, false, cond, ◌||◌}
use mathlib.Core.List.{List, [], ◌∷◌}
use mathlib.Core.Logic.{◌⊎◌, inl, inr}
use Prim.Native.Nat.{ℕ, zero, suc, ◌+◌, ◌/◌, ◌^◌, ◌≤◌, ◌<◌, min}
use native.Mathlib.Nat.{add-zero, le_refl, lt_of_lt_of_le}
use native.Mathlib.Numerals.{add-one}
use native.Mathlib.Omega.{arith}
use borrow.Author.Tests.{lt-ltb, le-ltb}
use lib.Dec.{ltb, eqb}
use lib.Pow.{pow_pos, pow_mono}
use lib.ListN.{get_or-append}
use lib.Seq.{get_or_at}
use Rattle.order.specs.Sum.{sum}
use Rattle.order.proofs.Booleans.{bool_cases}
use Rattle.order.proofs.Sums.{delta-same, delta-other}
use Rattle.order.proofs.Extremes.{below_suc}
use Rattle.model.specs.Plan.{Block, Plan, machines, domain, block_count, no_block, block_of, marks_pair, pairs_next, pairs_back, is_paired, max_replicas, upper}
use Rattle.model.specs.Placement.{bit, replicas, used}
use Rattle.model.specs.Recordings.{plan_with, free_word, next_domain, machine_in, spread_word, next_machine, filled_word}
use Rattle.theory.specs.Refusal.{Shaped}
use Rattle.theory.proofs.Plan.{pairs_back-end}
use Rattle.theory.proofs.Placement.{bit-above, bit-add, bit-add-below}

-- ── plan_with ─────────────────────────────────────────────────────────────────────────────────────
module _ (b : Block) (p : Plan) where
  pub plan_with-block_of : (i : ℕ) → i < block_count p → block_of (plan_with b p) i ≡ block_of p i
  plan_with-block_of i l = get_or-append p.blocks (b ∷ []) no_block i l

  pub plan_with-new : block_of (plan_with b p) (block_count p) ≡ b
  plan_with-new = get_or_at p.blocks b [] no_block (block_count p) refl

  -- the other blocks are paired as they were
  pub plan_with-pairs_next : (i : ℕ) → i < block_count p → pairs_next (plan_with b p) i ≡ pairs_next p i
  unfolding pairs_next
  plan_with-pairs_next i l = ap marks_pair (plan_with-block_of i l)

  pub plan_with-pairs_back : (i : ℕ) → i ≤ block_count p → pairs_back (plan_with b p) i ≡ pairs_back p i
  unfolding pairs_back
  plan_with-pairs_back zero l = refl
  plan_with-pairs_back (suc i) l = plan_with-pairs_next i l

  -- the new block is not: its byte is 0, and the last block's is not 1
  module _ (shaped : Shaped p) (unpaired : b.pair_byte ≡ 0) where
    pub plan_with-pairs_next-new : pairs_next (plan_with b p) (block_count p) ≡ false
    unfolding pairs_next
    plan_with-pairs_next-new = ap marks_pair plan_with-new ∙ ap (λ (n : ℕ). eqb n 1) unpaired

    pub plan_with-is_paired-new : is_paired (plan_with b p) (block_count p) ≡ false
    unfolding is_paired
    plan_with-is_paired-new =
        ap₂ ◌||◌ plan_with-pairs_next-new (plan_with-pairs_back (block_count p) (le_refl (block_count p)) ∙ pairs_back-end p shaped)

    pub plan_with-upper-new : upper (plan_with b p) (block_count p) ≡ min (max_replicas p.version) (machines p)
    unfolding upper
    plan_with-upper-new =
        let most = max_replicas p.version in
        ap (λ (t : Bool). cond t (min most (machines p / 2)) (min most (machines p))) plan_with-is_paired-new

-- ── free_word ─────────────────────────────────────────────────────────────────────────────────────
-- the word of the numbers below n that pass a test
abbrev word_where : (ℕ → Bool) → ℕ → ℕ
word_where test n = sum n (λ m. cond (test m) (2 ^ m) 0)

word_where-bits : (test : ℕ → Bool) (n : ℕ)
    → (word_where test n < 2 ^ n) × ((k : ℕ) → k < n → bit (word_where test n) k ≡ cond (test k) 1 0)
unfolding sum
word_where-bits test zero = (pow_pos 0, λ k l. absurd (omega arith))
word_where-bits test (suc n) = go (word_where-bits test n) (bool_cases (test n))
  where
    w : ℕ
    w = word_where test n

    go : (w < 2 ^ n) × ((k : ℕ) → k < n → bit w k ≡ cond (test k) 1 0) → (test n ≡ true) ⊎ (test n ≡ false)
        → (w + cond (test n) (2 ^ n) 0 < 2 ^ suc n)
        × ((k : ℕ) → k < suc n → bit (w + cond (test n) (2 ^ n) 0) k ≡ cond (test k) 1 0)
    go before (inl t) =
        let clear : bit w n ≡ 0 = bit-above w n before.0 in
        let wide : w < 2 ^ suc n = lt_of_lt_of_le before.0 (pow_mono (omega arith)) in
        rw t (
          bit-add-below w (suc n) n wide (omega arith) clear,
          below_suc n (λ k. bit (w + 2 ^ n) k ≡ cond (test k) 1 0)
              (rw t (omega (arith, bit-add w n clear n, delta-same n n refl)))
              (λ k l. bit-add w n clear k ∙ (omega (arith, before.1 k l, delta-other k n (λ e. omega arith)))),
        )
    go before (inr t) =
        let wide : w < 2 ^ suc n = lt_of_lt_of_le before.0 (pow_mono (omega arith)) in
        rw (t, add-zero w) (
          wide,
          below_suc n (λ k. bit w k ≡ cond (test k) 1 0) (rw t (bit-above w n before.0)) before.1,
        )

-- Which machines a word names: those with a free place.
pub record FreeLaws (p : Plan) (words : List ℕ) (word : ℕ) : Type 0 where
  pub below : word < 2 ^ machines p
  pub free : (m : ℕ) → m < machines p → used p words m < p.capacity → bit word m ≡ 1
  pub full : (m : ℕ) → m < machines p → p.capacity ≤ used p words m → bit word m ≡ 0

module _ (p : Plan) (words : List ℕ) where
  pub free_word-laws : FreeLaws p words (free_word p words)
  unfolding free_word
  free_word-laws =
      let laws = word_where-bits (λ m. ltb (used p words m) p.capacity) (machines p) in
      record {
        below = laws.0;
        free = λ m l room. laws.1 m l ∙ (rw (lt-ltb (used p words m) p.capacity room));
        full = λ m l none. laws.1 m l ∙ (rw (le-ltb (used p words m) p.capacity none));
      }

-- ── spread_word ───────────────────────────────────────────────────────────────────────────────────
-- the step of a loop that counts
pub spread_word-zero : (p : Plan) (words : List ℕ) → spread_word p words 0 ≡ 0
unfolding spread_word
spread_word-zero p words = refl

pub spread_word-step : (p : Plan) (words : List ℕ) (n : ℕ)
    → spread_word p words (n + 1) ≡ spread_word p words n + 2 ^ machine_in p words (next_domain p words (spread_word p words n))
unfolding spread_word
spread_word-step p words n = rw add-one

-- ── filled_word ───────────────────────────────────────────────────────────────────────────────────
-- the step of a loop that counts
pub filled_word-zero : (p : Plan) (words : List ℕ) (word : ℕ) → filled_word p words word 0 ≡ word
unfolding filled_word
filled_word-zero p words word = refl

pub filled_word-step : (p : Plan) (words : List ℕ) (word n : ℕ)
    → filled_word p words word (n + 1) ≡ filled_word p words word n + 2 ^ next_machine p words (filled_word p words word n)
unfolding filled_word
filled_word-step p words word n = rw add-one
