-- Laws of sums over the numbers below a bound.
-- Assumes nothing.
use mathlib.Core.Path.{◌≡◌, refl, ap, ap₂, sym, ◌∙◌}
use mathlib.Core.Logic.{◌⊎◌, inl, inr}
use Prim.Native.Nat.{ℕ, zero, suc, ◌+◌, ◌*◌, ◌≤◌, ◌<◌, min}
use native.Mathlib.Nat.{le_refl, le_antisymm, mul-add, mul-zero, mul-one, mul_comm, add-le-add, not-suc-le-zero, le_of_suc-le-suc, eq-or-lt_of_le, suc-mul, zero-mul}
use native.Mathlib.Numerals.{add-one}
use native.Mathlib.Decide.{ℕ_discrete, dec_lt}
use native.Mathlib.Omega.{arith}
use borrow.Author.Tests.{eq-eqb, ne_eqb}
use Rattle.order.specs.Sum.{sum, delta}

pub sum-zero : (f : ℕ → ℕ) → sum 0 f ≡ 0
unfolding sum
sum-zero f = refl

pub sum-suc : (n : ℕ) (f : ℕ → ℕ) → sum (suc n) f ≡ sum n f + f n
unfolding sum
sum-suc n f = refl

-- the step of a loop that counts
pub sum_step : (n : ℕ) (f : ℕ → ℕ) → sum (n + 1) f ≡ sum n f + f n
sum_step n f = rw add-one (sum-suc n f)

-- two functions that agree below n have one sum there
pub sum-cong : (n : ℕ) (f g : ℕ → ℕ) → ((i : ℕ) → i < n → f i ≡ g i) → sum n f ≡ sum n g
unfolding sum
sum-cong zero f g e = refl
sum-cong (suc n) f g e = ap₂ ◌+◌ (sum-cong n f g (λ i h. e i (omega arith))) (e n (le_refl (suc n)))

pub sum_mono : (n : ℕ) (f g : ℕ → ℕ) → ((i : ℕ) → i < n → f i ≤ g i) → sum n f ≤ sum n g
unfolding sum
sum_mono zero f g h = omega arith
sum_mono (suc n) f g h = add-le-add (sum_mono n f g (λ i l. h i (omega arith))) (h n (le_refl (suc n)))

-- a sum is above 0 where one of its terms is
pub sum_any : (n : ℕ) (f : ℕ → ℕ) → min 1 (sum n f) ≡ min 1 (sum n (λ i. min 1 (f i)))
unfolding sum
sum_any zero f = refl
sum_any (suc n) f = let e = sum_any n f in omega arith

pub sum-none : (n : ℕ) → sum n (λ i. 0) ≡ 0
unfolding sum
sum-none zero = refl
sum-none (suc n) = let e = sum-none n in omega arith

pub sum-const : (n c : ℕ) → sum n (λ i. c) ≡ n * c
unfolding sum
sum-const zero c = sym (zero-mul c)
sum-const (suc n) c = ap (λ (x : ℕ). x + c) (sum-const n c) ∙ sym (suc-mul n c)

pub sum-add : (n : ℕ) (f g : ℕ → ℕ) → sum n (λ i. f i + g i) ≡ sum n f + sum n g
unfolding sum
sum-add zero f g = refl
sum-add (suc n) f g = let e = sum-add n f g in omega arith

pub sum-mul : (n c : ℕ) (f : ℕ → ℕ) → sum n (λ i. c * f i) ≡ c * sum n f
unfolding sum
sum-mul zero c f = sym (mul-zero c)
sum-mul (suc n) c f = ap (λ (x : ℕ). x + c * f n) (sum-mul n c f) ∙ sym (mul-add c (sum n f) (f n))

-- a constant factor on the right
pub sum-scale : (n c : ℕ) (f : ℕ → ℕ) → sum n (λ i. f i * c) ≡ c * sum n f
sum-scale n c f = sum-cong n (λ i. f i * c) (λ i. c * f i) (λ i l. mul_comm (f i) c) ∙ sum-mul n c f

pub sum_ones : (n : ℕ) → sum n (λ i. 1) ≡ n
sum_ones n = sum-const n 1 ∙ mul-one n

-- what holds of the terms holds of the sums
pub sum-balance : (n : ℕ) (f g h k : ℕ → ℕ) → ((i : ℕ) → i < n → f i + g i ≡ h i + k i) → sum n f + sum n g ≡ sum n h + sum n k
sum-balance n f g h k e = sym (sum-add n f g) ∙ sum-cong n (λ i. f i + g i) (λ i. h i + k i) e ∙ sum-add n h k

pub sum-balance-le : (n : ℕ) (f g h k : ℕ → ℕ) → ((i : ℕ) → i < n → f i + g i ≤ h i + k i) → sum n f + sum n g ≤ sum n h + sum n k
sum-balance-le n f g h k e =
    omega (arith, sum_mono n (λ i. f i + g i) (λ i. h i + k i) e, sum-add n f g, sum-add n h k)

-- and strictly, where there is a term
pub sum-strict : (n : ℕ) (f g : ℕ → ℕ) → 0 < n → ((i : ℕ) → i < n → f i < g i) → sum n f < sum n g
sum-strict n f g pos h =
    omega (arith, sum-balance-le n f (λ i. 1) g (λ i. 0) (λ i l. omega (arith, h i l)), sum_ones n, sum-none n)

-- the order of two sums may be exchanged
pub sum-exchange : (n m : ℕ) (f : ℕ → ℕ → ℕ) → sum n (λ i. sum m (λ j. f i j)) ≡ sum m (λ j. sum n (λ i. f i j))
unfolding sum
sum-exchange zero m f = sym (sum-none m)
sum-exchange (suc n) m f =
    ap (λ (x : ℕ). x + sum m (λ j. f n j)) (sum-exchange n m f) ∙ sym (sum-add m (λ j. sum n (λ i. f i j)) (λ j. f n j))

-- a term is at most the sum
pub sum-term : (n : ℕ) (f : ℕ → ℕ) (i : ℕ) → i < n → f i ≤ sum n f
unfolding sum
sum-term zero f i l = absurd (not-suc-le-zero l)
sum-term (suc n) f i l = go (eq-or-lt_of_le (le_of_suc-le-suc l)) (λ m. sum-term n f i m)
  where
    go : (i ≡ n) ⊎ (i < n) → (i < n → f i ≤ sum n f) → f i ≤ sum n f + f n
    go (inl e) below = rw e (omega arith)
    go (inr m) below = let b = below m in omega arith

-- a shorter sum is at most a longer one
pub sum-prefix : (n : ℕ) (f : ℕ → ℕ) (i : ℕ) → i ≤ n → sum i f ≤ sum n f
unfolding sum
sum-prefix zero f i l = rw (le_antisymm l (omega arith)) (le_refl (sum 0 f))
sum-prefix (suc n) f i l = go (eq-or-lt_of_le l) (λ m. sum-prefix n f i m)
  where
    go : (i ≡ suc n) ⊎ (i < suc n) → (i ≤ n → sum i f ≤ sum n f) → sum i f ≤ sum n f + f n
    go (inl e) below = rw e (le_refl (sum (suc n) f))
    go (inr m) below = let b = below (le_of_suc-le-suc m) in omega arith

-- terms that are not above others are equal to them where their sum is not below
pub sum_same : (n : ℕ) (f g : ℕ → ℕ) → ((i : ℕ) → i < n → f i ≤ g i) → sum n g ≤ sum n f → (i : ℕ) → i < n → f i ≡ g i
unfolding sum
sum_same zero f g le full i l = absurd (not-suc-le-zero l)
sum_same (suc n) f g le full i l = go (eq-or-lt_of_le (le_of_suc-le-suc l)) (sum_same n f g below (omega (arith, last)) i)
  where
    below : (i : ℕ) → i < n → f i ≤ g i
    below i l = le i (omega arith)

    last : f n ≤ g n
    last = le n (le_refl (suc n))

    go : (i ≡ n) ⊎ (i < n) → (i < n → f i ≡ g i) → f i ≡ g i
    go (inl e) before = let less = sum_mono n f g below in rw e (omega (arith, last))
    go (inr m) before = before m

-- a sum below another is below it at some term
pub sum-index : (n : ℕ) (f g : ℕ → ℕ) → sum n f < sum n g → (i : ℕ) × (i < n) × (f i < g i)
unfolding sum
sum-index zero f g l = absurd (not-suc-le-zero l)
sum-index (suc n) f g l = go (dec_lt (f n) (g n)) (λ m. sum-index n f g m)
  where
    go : Dec (f n < g n) → (sum n f < sum n g → (i : ℕ) × (i < n) × (f i < g i)) → (i : ℕ) × (i < suc n) × (f i < g i)
    go (yes h) below = (n, le_refl (suc n), h)
    go (no h) below =
        let le : g n ≤ f n = omega arith in
        let found = below (omega arith) in
        (found.0, omega (arith, found.1), found.2)

pub delta-same : (a b : ℕ) → a ≡ b → delta a b ≡ 1
unfolding delta
delta-same a b e = rw (eq-eqb a b e)

pub delta-other : (a b : ℕ) → (a ≡ b → ⊥) → delta a b ≡ 0
unfolding delta
delta-other a b h = rw (ne_eqb a b h)

-- delta depends only on whether its two numbers are equal
pub delta-iff : (a b c d : ℕ) → (a ≡ b → c ≡ d) → (c ≡ d → a ≡ b) → delta a b ≡ delta c d
delta-iff a b c d to from =
    elim (ℕ_discrete a b) [
      | yes e ↦ delta-same a b e ∙ sym (delta-same c d (to e))
      | no h ↦ delta-other a b h ∙ sym (delta-other c d (λ e. h (from e)))
    ]

pub delta-sym : (a b : ℕ) → delta a b ≡ delta b a
delta-sym a b = delta-iff a b b a sym sym

-- a sum with one term picked out by delta
pub sum-delta : (n a : ℕ) (f : ℕ → ℕ) → a < n → sum n (λ i. delta i a * f i) ≡ f a
unfolding sum
sum-delta zero a f l = absurd (not-suc-le-zero l)
sum-delta (suc n) a f l = go (eq-or-lt_of_le (le_of_suc-le-suc l)) (λ m. sum-delta n a f m)
  where
    none : (k : ℕ) → k ≤ a → sum k (λ i. delta i a * f i) ≡ 0
    none k h =
        sum-cong k (λ i. delta i a * f i) (λ i. 0)
        (λ i m. ap (λ (x : ℕ). x * f i) (delta-other i a (λ e. omega arith)) ∙ zero-mul (f i))
        ∙ sum-none k

    go : (a ≡ n) ⊎ (a < n) → (a < n → sum n (λ i. delta i a * f i) ≡ f a) → sum n (λ i. delta i a * f i) + delta n a * f n ≡ f a
    go (inl e) below =
        let z = none n (omega arith) in
        let d = delta-same n a (sym e) in
        rw (z, d, e) (omega arith)
    go (inr m) below =
        let b = below m in
        let d = delta-other n a (λ e. omega arith) in
        rw (b, d, zero-mul (f n)) (omega arith)

-- the deltas of one number add up to 1
pub sum-point : (n a : ℕ) → a < n → sum n (delta a) ≡ 1
sum-point n a l =
    sum-cong n (delta a) (λ i. delta i a * 1) (λ i h. delta-sym a i ∙ sym (mul-one (delta i a)))
    ∙ sum-delta n a (λ i. 1) l
