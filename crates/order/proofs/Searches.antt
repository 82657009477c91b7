-- Laws of the first-index search, and of the lightest number that passes a test.
-- Assumes nothing.
use mathlib.Core.Path.{◌≡◌, refl, sym, ◌∙◌}
use mathlib.Core.Bool.{Bool, true, false, cond, ◌&&◌}
use mathlib.Core.Logic.{◌⊎◌, inl, inr}
use Prim.Native.Nat.{ℕ, zero, suc, ◌<◌, ◌≤◌}
use native.Mathlib.Nat.{eq-or-lt_of_le, le_of_suc-le-suc, not-suc-le-zero, le_refl, le_antisymm, lt_of_lt_of_le}
use native.Mathlib.Decide.{dec_lt}
use native.Mathlib.Omega.{arith}
use borrow.Author.Tests.{lt-ltb, le-ltb}
use lib.Dec.{ltb}
use Rattle.order.specs.Search.{first_up, lightest}
use Rattle.order.proofs.Booleans.{no-contradiction, bool_cases, cond-all}
use Rattle.order.proofs.Extremes.{below_suc}

module _ {ℓ} {A : Type ℓ} (found : A → Bool) (none : A) (nothing : found none ≡ false) (f : ℕ → A) where
  -- nothing is found where no answer is accepted
  pub first-none : (n : ℕ) → ((i : ℕ) → i < n → found (f i) ≡ false) → first_up found none f n ≡ none
  unfolding first_up
  first-none zero h = refl
  first-none (suc n) h =
      let e = first-none n (λ i l. h i (omega arith)) in
      rw (e, nothing, h n (le_refl (suc n)))

  -- the first accepted answer is what is found, however far the search goes on
  pub first-at : (n i : ℕ) → i < n → ((k : ℕ) → k < i → found (f k) ≡ false) → found (f i) ≡ true → first_up found none f n ≡ f i
  unfolding first_up
  first-at zero i l before here = absurd (not-suc-le-zero l)
  first-at (suc n) i l before here = go (eq-or-lt_of_le (le_of_suc-le-suc l)) (λ m. first-at n i m before here)
    where
      go : (i ≡ n) ⊎ (i < n) → (i < n → first_up found none f n ≡ f i)
          → cond (found (first_up found none f n)) (first_up found none f n) (cond (found (f n)) (f n) none) ≡ f i
      go (inl e) below =
          let none_yet = first-none n (λ k m. before k (rw e m)) in
          rw (none_yet, nothing, ← e, here)
      go (inr m) below = rw (below m, here)

  -- what is found is accepted, or it is `none`
  pub first_found : (n : ℕ) → (found (first_up found none f n) ≡ true) ⊎ (first_up found none f n ≡ none)
  unfolding first_up
  first_found zero = inr refl
  first_found (suc n) = go (bool_cases (found (first_up found none f n))) (bool_cases (found (f n)))
    where
      go : (found (first_up found none f n) ≡ true) ⊎ (found (first_up found none f n) ≡ false)
          → (found (f n) ≡ true) ⊎ (found (f n) ≡ false)
          → (found (cond (found (first_up found none f n)) (first_up found none f n) (cond (found (f n)) (f n) none)) ≡ true)
          ⊎ (cond (found (first_up found none f n)) (first_up found none f n) (cond (found (f n)) (f n) none) ≡ none)
      go (inl e) d = inl (rw (e, e))
      go (inr e) (inl d) = inl (rw (e, d, d))
      go (inr e) (inr d) = inr (rw (e, d))

  -- where the search ends in an answer that is not accepted, no answer was
  pub none_below : (n : ℕ) → found (first_up found none f n) ≡ false → (i : ℕ) → i < n → found (f i) ≡ false
  unfolding first_up
  none_below zero e i l = absurd (not-suc-le-zero l)
  none_below (suc n) e i l =
      go (bool_cases (found (first_up found none f n))) (bool_cases (found (f n)))
      (λ d m. none_below n d i m) (eq-or-lt_of_le (le_of_suc-le-suc l))
    where
      go : (found (first_up found none f n) ≡ true) ⊎ (found (first_up found none f n) ≡ false)
          → (found (f n) ≡ true) ⊎ (found (f n) ≡ false)
          → (found (first_up found none f n) ≡ false → i < n → found (f i) ≡ false)
          → (i ≡ n) ⊎ (i < n)
          → found (f i) ≡ false
      go (inl b) d below place = no-contradiction (sym b ∙ (rw (b) at e))
      go (inr b) (inl d) below place = no-contradiction (sym d ∙ (rw (b, d) at e))
      go (inr b) (inr d) below (inl same) = rw same d
      go (inr b) (inr d) below (inr m) = below b m

  -- what is found is the first answer that is accepted
  pub first-index : (n : ℕ) → found (first_up found none f n) ≡ true
      → (i : ℕ) × (i < n) × (first_up found none f n ≡ f i) × (found (f i) ≡ true) × ((k : ℕ) → k < i → found (f k) ≡ false)
  unfolding first_up
  first-index zero e = no-contradiction (sym e ∙ nothing)
  first-index (suc n) e = go (bool_cases (found (first_up found none f n))) (bool_cases (found (f n))) (first-index n)
    where
      go : (found (first_up found none f n) ≡ true) ⊎ (found (first_up found none f n) ≡ false)
          → (found (f n) ≡ true) ⊎ (found (f n) ≡ false)
          → (found (first_up found none f n) ≡ true
          → (i : ℕ) × (i < n) × (first_up found none f n ≡ f i) × (found (f i) ≡ true) × ((k : ℕ) → k < i → found (f k) ≡ false))
          → (i : ℕ) × (i < suc n)
          × (cond (found (first_up found none f n)) (first_up found none f n) (cond (found (f n)) (f n) none) ≡ f i)
          × (found (f i) ≡ true) × ((k : ℕ) → k < i → found (f k) ≡ false)
      go (inl b) d below =
          let at = below b in
          (at.0, omega (arith, at.1), (rw b at.2), at.3, at.4)
      go (inr b) (inl d) below = (n, le_refl (suc n), (rw (b, d)), d, none_below n b)
      go (inr b) (inr d) below = no-contradiction (sym (rw (b, d) at e) ∙ nothing)

-- what holds of every answer and of `none` holds of what is found
pub first-all {ℓ κ} : {A : Type ℓ} (P : A → Type κ) (found : A → Bool) (none : A) (f : ℕ → A) (n : ℕ) → P none
    → ((i : ℕ) → i < n → P (f i)) → P (first_up found none f n)
unfolding first_up
first-all P found none f zero nothing each = nothing
first-all P found none f (suc n) nothing each =
    let before = first-all P found none f n nothing (λ i l. each i (omega arith)) in
    let here = cond-all P (found (f n)) (f n) none (λ e. each n (le_refl (suc n))) nothing in
    cond-all P (found (first_up found none f n)) (first_up found none f n) (cond (found (f n)) (f n) none) (λ e. before) here

-- ── lightest ─────────────────────────────────────────────────────────────────────────────────────
-- What makes m the number below n that passes the test and has the smallest weight, of several the lowest; n where none passes.
pub record Lightest (test : ℕ → Bool) (weight : ℕ → ℕ) (n m : ℕ) : Type 0 where
  pub in-range : m ≤ n
  pub passes : m < n → test m ≡ true
  -- where some number passes, m is below n, none that passes is lighter, and none lower is as light
  pub some : (k : ℕ) → k < n → test k ≡ true → m < n
  pub none-lighter : (k : ℕ) → k < n → test k ≡ true → weight m ≤ weight k
  pub lowest : (k : ℕ) → k < m → test k ≡ true → weight m < weight k

-- there is one such number
lightest-one : {test : ℕ → Bool} {weight : ℕ → ℕ} {n a b : ℕ} → Lightest test weight n a → Lightest test weight n b → a ≡ b
lightest-one s t = le_antisymm (upto s t) (upto t s)
  where
    upto : {test : ℕ → Bool} {weight : ℕ → ℕ} {n a b : ℕ} → Lightest test weight n a → Lightest test weight n b → a ≤ b
    upto {a = a} {b = b} s t =
        elim (dec_lt b a) [
          | yes l ↦
              let bn : b < _ = lt_of_lt_of_le l s.in-range in
              let on = t.passes bn in
              let an = s.some b bn on in
              absurd (omega (arith, s.lowest b l on, t.none-lighter a an (s.passes an)))
          | no h ↦ omega arith
        ]

module _ (test : ℕ → Bool) (weight : ℕ → ℕ) where
  pub lightest-is : (n : ℕ) → Lightest test weight n (lightest test weight n)
  unfolding lightest
  lightest-is zero =
      record {
        in-range = omega arith;
        passes = λ l. absurd (not-suc-le-zero l);
        some = λ k l t. absurd (not-suc-le-zero l);
        none-lighter = λ k l t. absurd (not-suc-le-zero l);
        lowest = λ k l t. absurd (not-suc-le-zero l);
      }
  lightest-is (suc n) =
      let before = lightest test weight n in
      go before (lightest-is n) (dec_lt before n) (bool_cases (test n)) (dec_lt (weight n) (weight before))
    where
      go : (m : ℕ) → Lightest test weight n m → Dec (m < n) → (test n ≡ true) ⊎ (test n ≡ false) → Dec (weight n < weight m)
          → Lightest test weight (suc n)
          (cond (ltb m n) (cond (test n && ltb (weight n) (weight m)) n m) (cond (test n) n (suc n)))
      go m s (yes l) (inl t) (yes w) =
          rw (lt-ltb m n l, t, lt-ltb (weight n) (weight m) w)
          (record {
            in-range = omega arith;
            passes = λ h. t;
            some = λ k h on. omega arith;
            none-lighter = below_suc n (λ k. test k ≡ true → weight n ≤ weight k) (λ on. omega arith)
                (λ k h on. omega (arith, s.none-lighter k h on));
            lowest = λ k h on. omega (arith, s.none-lighter k h on);
          })
      go m s (yes l) (inl t) (no w) =
          rw (lt-ltb m n l, t, le-ltb (weight n) (weight m) (omega arith))
          (record {
            in-range = omega arith;
            passes = λ h. s.passes l;
            some = λ k h on. omega arith;
            none-lighter = below_suc n (λ k. test k ≡ true → weight m ≤ weight k) (λ on. omega arith) s.none-lighter;
            lowest = s.lowest;
          })
      go m s (yes l) (inr t) w =
          rw (lt-ltb m n l, t)
          (record {
            in-range = omega arith;
            passes = λ h. s.passes l;
            some = λ k h on. omega arith;
            none-lighter = below_suc n (λ k. test k ≡ true → weight m ≤ weight k) (λ on. no-contradiction (sym on ∙ t)) s.none-lighter;
            lowest = s.lowest;
          })
      go m s (no l) (inl t) w =
          rw (le-ltb m n (omega arith), t)
          (record {
            in-range = omega arith;
            passes = λ h. t;
            some = λ k h on. omega arith;
            none-lighter = below_suc n (λ k. test k ≡ true → weight n ≤ weight k) (λ on. omega arith)
                (λ k h on. absurd (l (s.some k h on)));
            lowest = λ k h on. absurd (l (s.some k h on));
          })
      go m s (no l) (inr t) w =
          rw (le-ltb m n (omega arith), t)
          (record {
            in-range = omega arith;
            passes = λ h. absurd (omega arith);
            some = below_suc n (λ k. test k ≡ true → suc n < suc n) (λ on. no-contradiction (sym on ∙ t))
                (λ k h on. absurd (l (s.some k h on)));
            none-lighter = below_suc n (λ k. test k ≡ true → weight (suc n) ≤ weight k) (λ on. no-contradiction (sym on ∙ t))
                (λ k h on. absurd (l (s.some k h on)));
            lowest = below_suc n (λ k. test k ≡ true → weight (suc n) < weight k) (λ on. no-contradiction (sym on ∙ t))
                (λ k h on. absurd (l (s.some k h on)));
          })

  -- a number that passes, with none lighter and none lower as light, is the one
  pub lightest-at : (n r : ℕ) → r < n → test r ≡ true
      → ((k : ℕ) → k < n → test k ≡ true → weight r ≤ weight k)
      → ((k : ℕ) → k < r → test k ≡ true → weight r < weight k)
      → r ≡ lightest test weight n
  lightest-at n r l on light low =
      lightest-one
      (record { in-range = omega arith; passes = λ h. on; some = λ k h t. l; none-lighter = light; lowest = low })
      (lightest-is n)
