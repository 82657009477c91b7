-- A plan's blocks as items: a pair is one item, that of its first block, and every other block an item of its own. The two blocks of
-- a pair have equal shares and never meet, so a machine holds 0 or 1 of an item, and its load and its copies are sums over items.
-- Assumes nothing.
use mathlib.Core.Path.{◌≡◌, refl, ap, sym, ◌∙◌}
use mathlib.Core.Bool.{true, false, cond}
use mathlib.Core.List.{List}
use mathlib.Core.Logic.{◌⊎◌, inl, inr}
use Prim.Native.Nat.{ℕ, zero, suc, ◌+◌, ◌*◌, ◌≤◌, ◌<◌}
use native.Mathlib.Nat.{add-mul, zero-mul}
use native.Mathlib.Decide.{dec_lt}
use native.Mathlib.Omega.{arith}
use Rattle.order.specs.Sum.{sum}
use Rattle.order.proofs.Booleans.{no-contradiction, bool_cases, not_so}
use Rattle.order.proofs.Sums.{sum-cong, sum-add, sum-none}
use Rattle.model.specs.Plan.{Plan, machines, block_count, pairs_next, pairs_back, is_paired, partner}
use Rattle.model.specs.Placement.{word_of, held, Feasible}
use Rattle.theory.specs.Refusal.{Shaped}
use Rattle.theory.proofs.Plan.{is_paired-first, is_paired-back, partner-first, partner-second}
use Rattle.theory.proofs.Placement.{bit_le}

-- What an item has of a number that every block has: a pair the sum of both at its first block and nothing at its second.
unfoldable pub item : Plan → (ℕ → ℕ) → ℕ → ℕ
item p f g = cond (pairs_next p g) (f g + f (suc g)) (cond (pairs_back p g) 0 (f g))

-- What block g is: the first of a pair, the second of one, or single.
pub data Role (p : Plan) (g : ℕ) : Type 0 where
  first_of : pairs_next p g ≡ true → Role p g
  second_of : pairs_next p g ≡ false → pairs_back p g ≡ true → Role p g
  single : pairs_next p g ≡ false → pairs_back p g ≡ false → Role p g

pub role : (p : Plan) (g : ℕ) → Role p g
role p g = go (bool_cases (pairs_next p g)) (bool_cases (pairs_back p g))
  where
    go : (pairs_next p g ≡ true) ⊎ (pairs_next p g ≡ false) → (pairs_back p g ≡ true) ⊎ (pairs_back p g ≡ false) → Role p g
    go (inl a) b = first_of a
    go (inr a) (inl b) = second_of a b
    go (inr a) (inr b) = single a b

module _ (p : Plan) (f : ℕ → ℕ) (g : ℕ) where
  pub item-pair : pairs_next p g ≡ true → item p f g ≡ f g + f (suc g)
  unfolding item
  item-pair a = rw a

  pub item-second : pairs_next p g ≡ false → pairs_back p g ≡ true → item p f g ≡ 0
  unfolding item
  item-second a b = rw (a, b)

  pub item-single : pairs_next p g ≡ false → pairs_back p g ≡ false → item p f g ≡ f g
  unfolding item
  item-single a b = rw (a, b)

pub item-cong : (p : Plan) (f h : ℕ → ℕ) → ((i : ℕ) → f i ≡ h i) → (g : ℕ) → item p f g ≡ item p h g
unfolding item
item-cong p f h same g = rw (same g, same (suc g))

module _ (p : Plan) (shaped : Shaped p) where
  -- the first of a pair is not the second of another
  first-only : (g : ℕ) → g < block_count p → pairs_next p g ≡ true → pairs_back p g ≡ false
  unfolding pairs_back
  first-only zero l e = refl
  first-only (suc g) l e = go (bool_cases (pairs_next p g))
    where
      go : (pairs_next p g ≡ true) ⊎ (pairs_next p g ≡ false) → pairs_next p g ≡ false
      go (inl a) = no-contradiction (sym e ∙ (shaped.pair g (omega arith)).next-free a)
      go (inr a) = a

  -- over the first n blocks the items have what the blocks have, and the partner of the last one
  item-prefix : (f : ℕ → ℕ) (n : ℕ) → n ≤ block_count p → sum n (item p f) ≡ sum n f + cond (pairs_back p n) (f n) 0
  unfolding sum pairs_back
  item-prefix f zero l = refl
  item-prefix f (suc n) l = go (role p n) (item-prefix f n (omega arith))
    where
      go : Role p n → sum n (item p f) ≡ sum n f + cond (pairs_back p n) (f n) 0
          → sum n (item p f) + item p f n ≡ sum n f + f n + cond (pairs_next p n) (f (suc n)) 0
      go (first_of a) before =
          let before' : sum n (item p f) ≡ sum n f + 0 = rw (first-only n l a) at before in
          rw (a, item-pair p f n a) (omega arith)
      go (second_of a b) before = let before' = rw b at before in rw (a, item-second p f n a b) (omega arith)
      go (single a b) before = let before' = rw b at before in rw (a, item-single p f n a b) (omega arith)

  -- the last block is not paired with a next one
  last-unpaired : (n : ℕ) → block_count p ≡ n → pairs_back p n ≡ false
  unfolding pairs_back
  last-unpaired zero e = refl
  last-unpaired (suc k) e = not_so (pairs_next p k) (λ a. omega (arith, e, (shaped.pair k (omega (arith, e))).next-below a))

  pub item-sum : (f : ℕ → ℕ) → sum (block_count p) (item p f) ≡ sum (block_count p) f
  item-sum f =
      let all = rw (last-unpaired (block_count p) refl) at (item-prefix f (block_count p) (omega arith)) in
      omega arith

  -- an item times its share is what its blocks have of both, where the two blocks of a pair have equal shares
  pub item-scale : (h s : ℕ → ℕ) → ((g : ℕ) → g < block_count p → pairs_next p g ≡ true → s (suc g) ≡ s g)
      → (g : ℕ) → g < block_count p → item p h g * s g ≡ item p (λ i. h i * s i) g
  item-scale h s even g l = go (role p g)
    where
      go : Role p g → item p h g * s g ≡ item p (λ i. h i * s i) g
      go (first_of a) =
          rw (item-pair p h g a, item-pair p (λ i. h i * s i) g a, even g l a) (add-mul (h g) (h (suc g)) (s g))
      go (second_of a b) = rw (item-second p h g a b, item-second p (λ i. h i * s i) g a b) (zero-mul (s g))
      go (single a b) = rw (item-single p h g a b, item-single p (λ i. h i * s i) g a b)

  -- so a sum of both over the blocks is one over the items
  pub item-weight : (h s : ℕ → ℕ) → ((g : ℕ) → g < block_count p → pairs_next p g ≡ true → s (suc g) ≡ s g)
      → sum (block_count p) (λ g. item p h g * s g) ≡ sum (block_count p) (λ i. h i * s i)
  item-weight h s even = sum-cong (block_count p) _ _ (item-scale h s even) ∙ item-sum (λ i. h i * s i)

  -- an item of sums is the sum of items
  pub item-exchange : (n : ℕ) (f : ℕ → ℕ → ℕ) (g : ℕ) → item p (λ i. sum n (λ x. f x i)) g ≡ sum n (λ x. item p (f x) g)
  item-exchange n f g = go (role p g)
    where
      go : Role p g → item p (λ i. sum n (λ x. f x i)) g ≡ sum n (λ x. item p (f x) g)
      go (first_of a) =
          item-pair p (λ i. sum n (λ x. f x i)) g a
          ∙ sym (sum-add n (λ x. f x g) (λ x. f x (suc g)))
          ∙ sum-cong n _ _ (λ x l. sym (item-pair p (f x) g a))
      go (second_of a b) =
          item-second p (λ i. sum n (λ x. f x i)) g a b
          ∙ sym (sum-none n)
          ∙ sum-cong n _ _ (λ x l. sym (item-second p (f x) g a b))
      go (single a b) =
          item-single p (λ i. sum n (λ x. f x i)) g a b ∙ sum-cong n _ _ (λ x l. sym (item-single p (f x) g a b))

-- Block i is one of item g.
pub data Within (p : Plan) (g i : ℕ) : Type 0 where
  alone : is_paired p g ≡ false → i ≡ g → Within p g i
  head : pairs_next p g ≡ true → i ≡ g → Within p g i
  tail : pairs_next p g ≡ true → i ≡ suc g → Within p g i

-- an item that has more of one number than of another has a block with more of it
pub item-more : (p : Plan) (f h : ℕ → ℕ) (g : ℕ) → item p f g < item p h g → (i : ℕ) × Within p g i × (f i < h i)
unfolding is_paired
item-more p f h g less = go (role p g)
  where
    go : Role p g → (i : ℕ) × Within p g i × (f i < h i)
    go (first_of a) =
        let both = rw (item-pair p f g a, item-pair p h g a) at less in
        elim (dec_lt (f g) (h g)) [
          | yes l ↦ (g, head a refl, l)
          | no l ↦ (suc g, tail a refl, omega arith)
        ]
    go (second_of a b) = absurd (let none = rw (item-second p f g a b, item-second p h g a b) at less in omega arith)
    go (single a b) = (g, alone (rw (a, b)) refl, rw (item-single p f g a b, item-single p h g a b) at less)

module _ (p : Plan) (shaped : Shaped p) (g i : ℕ) (l : g < block_count p) where
  pub within-below : Within p g i → i < block_count p
  within-below (alone a e) = omega (arith, e)
  within-below (head a e) = omega (arith, e)
  within-below (tail a e) = omega (arith, e, (shaped.pair g l).next-below a)

  -- what the two blocks of a pair agree in
  pub within_same : (s : ℕ → ℕ) → ((f : ℕ) → f < block_count p → pairs_next p f ≡ true → s (suc f) ≡ s f) → Within p g i → s i ≡ s g
  within_same s even (alone a e) = ap s e
  within_same s even (head a e) = ap s e
  within_same s even (tail a e) = ap s e ∙ even g l a

  -- a machine that has nothing of an item has neither the block nor its partner
  pub within-clear : (h : ℕ → ℕ) → item p h g ≡ 0 → Within p g i → (h i ≡ 0) × (is_paired p i ≡ true → h (partner p i) ≡ 0)
  within-clear h none (alone a e) =
      let own = go (role p g) in
      (ap h e ∙ own, λ paired. no-contradiction (sym paired ∙ ap (is_paired p) e ∙ a))
    where
      go : Role p g → h g ≡ 0
      go (first_of b) = no-contradiction (sym (is_paired-first p g b) ∙ a)
      go (second_of b c) = no-contradiction (sym (is_paired-back p g c) ∙ a)
      go (single b c) = sym (item-single p h g b c) ∙ none
  within-clear h none (head a e) =
      let both = item-pair p h g a in
      (omega (arith, ap h e), λ paired. omega (arith, ap h (ap (partner p) e ∙ partner-first p shaped g a)))
  within-clear h none (tail a e) =
      let both = item-pair p h g a in
      (omega (arith, ap h e), λ paired. omega (arith, ap h (ap (partner p) e ∙ partner-second p shaped g l a)))

-- a machine holds at most one copy of an item
pub item-bit : (p : Plan) → Shaped p → (count : ℕ → ℕ) (words : List ℕ) → Feasible p count words → (m : ℕ) → m < machines p
    → (g : ℕ) → g < block_count p → item p (held words m) g ≤ 1
item-bit p shaped count words feasible m ml g l = go (role p g)
  where
    go : Role p g → item p (held words m) g ≤ 1
    go (first_of a) =
        omega (
          arith,
          item-pair p (held words m) g a,
          feasible.apart g l (is_paired-first p g a) m ml,
          ap (held words m) (partner-first p shaped g a),
        )
    go (second_of a b) = omega (arith, item-second p (held words m) g a b)
    go (single a b) = omega (arith, item-single p (held words m) g a b, bit_le (word_of words g) m)
