-- Searches and extremes over the numbers below a bound.
use Rattle.std.specs.Prelude.{Bool, true, cond, ◌&&◌, ℕ, zero, suc, min, max, ltb}

-- The first of f 0, f 1, .., f (n - 1) that `found` accepts; `none` where it accepts none.
unfoldable pub first_up {ℓ} : {A : Type ℓ} → (A → Bool) → A → (ℕ → A) → ℕ → A
first_up found none f zero = none
first_up found none f (suc n) =
    let before = first_up found none f n in
    let here = cond (found (f n)) (f n) none in
    cond (found before) before here

-- The least number below n that passes the test; n where none does.
unfoldable pub least : (ℕ → Bool) → ℕ → ℕ
least test zero = zero
least test (suc n) =
    let before = least test n in
    let here = cond (test n) n (suc n) in
    cond (ltb before n) before here

-- Whether every number below n passes the test.
unfoldable pub allb : ℕ → (ℕ → Bool) → Bool
allb zero test = true
allb (suc n) test = let before = allb n test in test n && before

-- The largest of f 0, .., f (n - 1), 0 where n is 0.
unfoldable pub largest : ℕ → (ℕ → ℕ) → ℕ
largest zero f = 0
largest (suc n) f = max (largest n f) (f n)

-- The smallest of f 0, .., f (n - 1), f 0 where n is 0.
unfoldable pub smallest : ℕ → (ℕ → ℕ) → ℕ
smallest zero f = f 0
smallest (suc n) f = min (smallest n f) (f n)

-- The number below n that passes the test and has the smallest weight, of several the lowest; n where none passes.
unfoldable pub lightest : (ℕ → Bool) → (ℕ → ℕ) → ℕ → ℕ
lightest test weight zero = zero
lightest test weight (suc n) =
    let before = lightest test weight n in
    let lighter = cond (test n && ltb (weight n) (weight before)) n before in
    let alone = cond (test n) n (suc n) in
    cond (ltb before n) lighter alone
