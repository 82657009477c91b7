-- Laws of the least number that passes a test, of a test of every number, and of the largest and the smallest of a range.
-- Assumes nothing.
use mathlib.Core.Path.{◌≡◌, refl, ap, ap₂, sym, ◌∙◌}
use mathlib.Core.Bool.{Bool, true, false, cond, ◌&&◌, and-eq-true_iff}
use mathlib.Core.Logic.{◌⊎◌, inl, inr, ◌↔◌}
use Prim.Native.Nat.{ℕ, zero, suc, ◌+◌, ◌*◌, ◌-◌, ◌≤◌, ◌<◌, min, max}
use native.Mathlib.Nat.{eq-or-lt_of_le, le_of_suc-le-suc, not-suc-le-zero, le_refl, le_antisymm, max-le, le-max_right, min-le_right, max-eq_right, min-eq_left, zero-mul, suc-mul}
use native.Mathlib.Numerals.{add-one}
use native.Mathlib.Decide.{dec_lt, dec_le, ℕ_discrete}
use native.Mathlib.Omega.{arith}
use borrow.Author.Tests.{lt-ltb, le-ltb}
use lib.Dec.{ltb}
use Rattle.order.specs.Sum.{sum, delta}
use Rattle.order.specs.Search.{least, allb, largest, smallest}
use Rattle.order.proofs.Booleans.{no-contradiction, bool_cases}
use Rattle.order.proofs.Sums.{sum_mono, sum-const, sum-balance-le, sum-delta, delta-same, delta-other}

-- a law of every number below n + 1 is one of n and one of those below n
pub below_suc {ℓ} : (n : ℕ) (P : ℕ → Type ℓ) → P n → ((i : ℕ) → i < n → P i) → (i : ℕ) → i < suc n → P i
below_suc n P here below i l =
    elim (eq-or-lt_of_le (le_of_suc-le-suc l)) [ inl e ↦ rw e here | inr m ↦ below i m ]

-- what makes m the least number below n that passes the test, or n
record Least (test : ℕ → Bool) (n m : ℕ) : Type 0 where
  in-range : m ≤ n
  passes : m < n → test m ≡ true
  fails : (x : ℕ) → x < m → test x ≡ false

-- there is one such number
least-one : {test : ℕ → Bool} {n a b : ℕ} → Least test n a → Least test n b → a ≡ b
least-one s t = le_antisymm (upto s t) (upto t s)
  where
    upto : {test : ℕ → Bool} {n a b : ℕ} → Least test n a → Least test n b → a ≤ b
    upto {a = a} {b = b} s t =
        elim (dec_lt b a) [
          | yes l ↦ no-contradiction (sym (t.passes (omega arith)) ∙ s.fails b l)
          | no h ↦ omega arith
        ]

module _ (test : ℕ → Bool) where
  least-is : (n : ℕ) → Least test n (least test n)
  unfolding least
  least-is zero =
      record { in-range = omega arith; passes = λ l. absurd (not-suc-le-zero l); fails = λ x l. absurd (not-suc-le-zero l) }
  least-is (suc n) = go (least-is n) (dec_lt (least test n) n) (bool_cases (test n))
    where
      go : Least test n (least test n) → Dec (least test n < n) → (test n ≡ true) ⊎ (test n ≡ false)
          → Least test (suc n) (cond (ltb (least test n) n) (least test n) (cond (test n) n (suc n)))
      go s (yes l) t =
          rw (lt-ltb _ _ l) (record { in-range = omega arith; passes = λ h. s.passes l; fails = s.fails })
      go s (no l) (inl t) =
          rw (le-ltb (least test n) n (omega arith), t)
          (record { in-range = omega arith; passes = λ h. t; fails = λ x h. s.fails x (omega arith) })
      go s (no l) (inr t) =
          rw (le-ltb (least test n) n (omega arith), t)
          (record {
            in-range = omega arith;
            passes = λ h. absurd (omega arith);
            fails = below_suc n (λ x. test x ≡ false) t (λ x h. s.fails x (omega arith));
          })

  pub least-le : (n : ℕ) → least test n ≤ n
  least-le n = (least-is n).in-range

  pub least-passes : (n : ℕ) → least test n < n → test (least test n) ≡ true
  least-passes n = (least-is n).passes

  pub least-below : (n x : ℕ) → x < least test n → test x ≡ false
  least-below n = (least-is n).fails

  pub least_first : (n x : ℕ) → x < n → test x ≡ true → least test n ≤ x
  least_first n x l t =
      elim (dec_lt x (least test n)) [
        | yes h ↦ no-contradiction (sym t ∙ least-below n x h)
        | no h ↦ omega arith
      ]

-- the step of a loop that counts
pub allb-step : (n : ℕ) (test : ℕ → Bool) → allb (n + 1) test ≡ (test n && allb n test)
unfolding allb
allb-step n test = rw add-one

pub allb-at : (n : ℕ) (test : ℕ → Bool) → allb n test ≡ true → (i : ℕ) → i < n → test i ≡ true
unfolding allb
allb-at zero test e i l = absurd (not-suc-le-zero l)
allb-at (suc n) test e i l =
    let parts = (and-eq-true_iff _ _).0 e in
    below_suc n (λ i. test i ≡ true) parts.0 (allb-at n test parts.1) i l

pub allb-intro : (n : ℕ) (test : ℕ → Bool) → ((i : ℕ) → i < n → test i ≡ true) → allb n test ≡ true
unfolding allb
allb-intro zero test h = refl
allb-intro (suc n) test h = rw (h n (le_refl (suc n))) (allb-intro n test (λ i l. h i (omega arith)))

pub allb-iff {ℓ} : (n : ℕ) (test : ℕ → Bool) (P : ℕ → Type ℓ) → ((i : ℕ) → (test i ≡ true) ↔ P i)
    → (allb n test ≡ true) ↔ ((i : ℕ) → i < n → P i)
allb-iff n test P each =
    (λ e i l. (each i).0 (allb-at n test e i l), λ h. allb-intro n test (λ i l. (each i).1 (h i l)))

pub allb-false : (n : ℕ) (test : ℕ → Bool) (i : ℕ) → i < n → test i ≡ false → allb n test ≡ false
allb-false n test i l e =
    elim (bool_cases (allb n test)) [
      | inl t ↦ no-contradiction (sym (allb-at n test t i l) ∙ e)
      | inr f ↦ f
    ]

pub allb-cong : (n : ℕ) (s t : ℕ → Bool) → ((i : ℕ) → i < n → s i ≡ t i) → allb n s ≡ allb n t
unfolding allb
allb-cong zero s t e = refl
allb-cong (suc n) s t e = ap₂ ◌&&◌ (e n (le_refl (suc n))) (allb-cong n s t (λ i l. e i (omega arith)))

max_cases : (a b : ℕ) → (max a b ≡ a) ⊎ (max a b ≡ b)
max_cases a b = elim (dec_le a b) [ yes l ↦ inr (max-eq_right l) | no l ↦ inl (omega arith) ]

min_cases : (a b : ℕ) → (min a b ≡ a) ⊎ (min a b ≡ b)
min_cases a b = elim (dec_le a b) [ yes l ↦ inl (min-eq_left l) | no l ↦ inr (omega arith) ]

-- one of the first n terms, or the next, is one of the first n + 1
with-last : (n : ℕ) (f : ℕ → ℕ) {m x : ℕ} → (i : ℕ) × (i < n) × (m ≡ f i) → (x ≡ m) ⊎ (x ≡ f n)
    → (i : ℕ) × (i < suc n) × (x ≡ f i)
with-last n f below (inl e) = (below.0, omega (arith, below.1), e ∙ below.2)
with-last n f below (inr e) = (n, le_refl (suc n), e)

-- the step of a loop that counts
pub largest-zero : (f : ℕ → ℕ) → largest 0 f ≡ 0
unfolding largest
largest-zero f = refl

pub largest_step : (n : ℕ) (f : ℕ → ℕ) → largest (n + 1) f ≡ max (largest n f) (f n)
unfolding largest
largest_step n f = rw add-one

pub largest-term : (n : ℕ) (f : ℕ → ℕ) (i : ℕ) → i < n → f i ≤ largest n f
unfolding largest
largest-term zero f i l = absurd (not-suc-le-zero l)
largest-term (suc n) f i l =
    below_suc n (λ i. f i ≤ max (largest n f) (f n)) (le-max_right _ _)
    (λ i m. let below = largest-term n f i m in omega arith) i l

pub largest-le : (n : ℕ) (f : ℕ → ℕ) (b : ℕ) → ((i : ℕ) → i < n → f i ≤ b) → largest n f ≤ b
unfolding largest
largest-le zero f b h = omega arith
largest-le (suc n) f b h = max-le (largest-le n f b (λ i l. h i (omega arith))) (h n (le_refl (suc n)))

-- the largest is one of them
pub largest-at : (n : ℕ) (f : ℕ → ℕ) → 0 < n → (i : ℕ) × (i < n) × (largest n f ≡ f i)
unfolding largest
largest-at zero f l = absurd (not-suc-le-zero l)
largest-at (suc zero) f l = (0, l, omega arith)
largest-at (suc (suc n)) f l = with-last (suc n) f (largest-at (suc n) f (omega arith)) (max_cases _ _)

pub largest-cong : (n : ℕ) (f g : ℕ → ℕ) → ((i : ℕ) → i < n → f i ≡ g i) → largest n f ≡ largest n g
unfolding largest
largest-cong zero f g e = refl
largest-cong (suc n) f g e = ap₂ max (largest-cong n f g (λ i l. e i (omega arith))) (e n (le_refl (suc n)))

-- a sum is at most its number of terms times the largest
pub sum-largest : (n : ℕ) (f : ℕ → ℕ) → sum n f ≤ n * largest n f
sum-largest n f = omega (arith, sum_mono n f (λ i. largest n f) (largest-term n f), sum-const n (largest n f))

-- where every two terms are within c of one another, each of the n - 1 others is within c of the largest
pub largest-near : (n : ℕ) (f : ℕ → ℕ) (c : ℕ) → ((i j : ℕ) → i < n → j < n → f i ≤ f j + c)
    → n * largest n f ≤ sum n f + (n - 1) * c
largest-near zero f c near = omega (arith, zero-mul (largest 0 f))
largest-near (suc n) f c near = go (largest-at (suc n) f (omega arith))
  where
    term : (i j : ℕ) → i < suc n → j < suc n → Dec (j ≡ i) → f i + delta j i * c ≤ f j + c
    term i j l m (yes e) = rw (delta-same j i e, e) (omega arith)
    term i j l m (no d) = rw (delta-other j i d) (omega (arith, near i j l m))

    go : (i : ℕ) × (i < suc n) × (largest (suc n) f ≡ f i) → suc n * largest (suc n) f ≤ sum (suc n) f + (suc n - 1) * c
    go (i, l, e) =
        let sums =
        sum-balance-le (suc n) (λ j. f i) (λ j. delta j i * c) f (λ j. c)
        (λ j m. term i j l m (ℕ_discrete j i))
        in
        let others : (suc n - 1) * c ≡ n * c = ap (λ (x : ℕ). x * c) (let z : suc n - 1 ≡ n = omega arith in z) in
        rw e
        (omega (arith, sum-const (suc n) (f i), sum-const (suc n) c, sum-delta (suc n) i (λ j. c) l, suc-mul n c))

-- the step of a loop that counts
pub smallest-step : (n : ℕ) (f : ℕ → ℕ) → smallest (n + 1) f ≡ min (smallest n f) (f n)
unfolding smallest
smallest-step n f = rw add-one

pub smallest-term : (n : ℕ) (f : ℕ → ℕ) (i : ℕ) → i < n → smallest n f ≤ f i
unfolding smallest
smallest-term zero f i l = absurd (not-suc-le-zero l)
smallest-term (suc n) f i l =
    below_suc n (λ i. min (smallest n f) (f n) ≤ f i) (min-le_right _ _)
    (λ i m. let below = smallest-term n f i m in omega arith) i l

-- the smallest is one of them
pub smallest-at : (n : ℕ) (f : ℕ → ℕ) → 0 < n → (i : ℕ) × (i < n) × (smallest n f ≡ f i)
unfolding smallest
smallest-at zero f l = absurd (not-suc-le-zero l)
smallest-at (suc zero) f l = (0, l, omega arith)
smallest-at (suc (suc n)) f l = with-last (suc n) f (smallest-at (suc n) f (omega arith)) (min_cases _ _)

pub smallest-cong : (n : ℕ) (f g : ℕ → ℕ) → f 0 ≡ g 0 → ((i : ℕ) → i < n → f i ≡ g i) → smallest n f ≡ smallest n g
unfolding smallest
smallest-cong zero f g first e = first
smallest-cong (suc n) f g first e =
    ap₂ min (smallest-cong n f g first (λ i l. e i (omega arith))) (e n (le_refl (suc n)))
