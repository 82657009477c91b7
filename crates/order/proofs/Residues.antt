-- How often a residue occurs among consecutive numbers.
-- Assumes nothing.
use mathlib.Core.Path.{◌≡◌, ap, sym, ◌∙◌}
use Prim.Native.Nat.{ℕ, zero, suc, ◌+◌, ◌*◌, ◌-◌, ◌/◌, ◌%◌, ◌≤◌, ◌<◌, min}
use native.Mathlib.Nat.{mod-lt, div-eq_of_lt, div-eq_of_lt-le, div-add-mod', div-lt_iff_lt-mul, add-div_right, suc-mul}
use native.Mathlib.Numerals.{add-one}
use native.Mathlib.Decide.{ℕ_discrete, dec_le, dec_lt}
use native.Mathlib.Omega.{arith}
use Rattle.order.specs.Sum.{sum, delta}
use Rattle.order.proofs.Arithmetic.{div_mono}
use Rattle.order.proofs.Sums.{sum-cong, sum_ones, delta-same, delta-other}
use Rattle.order.proofs.Ranges.{sum-append, sum-met}

module _ (m : ℕ) (pos : 0 < m) (t : ℕ) (below : t < m) where
  quotient : (n k : ℕ) → k * m ≤ n → n < k * m + m → n / m ≡ k
  quotient n k lo hi = div-eq_of_lt-le m lo (rw (add-one, suc-mul) hi)

  -- one number more: the quotient goes up where its residue is t
  quotient-step : (q : ℕ) → (suc q + (m - suc t)) / m ≡ (q + (m - suc t)) / m + delta t (q % m)
  quotient-step q = go (ℕ_discrete t (q % m)) (dec_lt (q % m) t) (div-add-mod' q m) (mod-lt q pos) (suc-mul (q / m) m)
    where
      go : Dec (t ≡ q % m) → Dec (q % m < t) → q / m * m + q % m ≡ q → q % m < m → suc (q / m) * m ≡ q / m * m + m
          → (suc q + (m - suc t)) / m ≡ (q + (m - suc t)) / m + delta t (q % m)
      go (yes e) order split rest next =
          let before = quotient (q + (m - suc t)) (q / m) (omega arith) (omega arith) in
          let now = quotient (suc q + (m - suc t)) (suc (q / m)) (omega arith) (omega arith) in
          omega (arith, delta-same t (q % m) e)
      go (no h) (yes l) split rest next =
          let before = quotient (q + (m - suc t)) (q / m) (omega arith) (omega arith) in
          let now = quotient (suc q + (m - suc t)) (q / m) (omega arith) (omega arith) in
          omega (arith, delta-other t (q % m) h)
      go (no h) (no g) split rest next =
          let before = quotient (q + (m - suc t)) (suc (q / m)) (omega arith) (omega arith) in
          let now = quotient (suc q + (m - suc t)) (suc (q / m)) (omega arith) (omega arith) in
          omega (arith, delta-other t (q % m) h)

  -- the numbers below q whose residue is t
  pub residue-count : (q : ℕ) → sum q (λ j. delta t (j % m)) ≡ (q + (m - suc t)) / m
  unfolding sum
  residue-count zero = sym (div-eq_of_lt (omega arith))
  residue-count (suc q) = ap (λ (x : ℕ). x + delta t (q % m)) (residue-count q) ∙ sym (quotient-step q)

  residue-window : (s k : ℕ)
      → (s + (m - suc t)) / m + sum k (λ j. delta t ((s + j) % m)) ≡ (s + k + (m - suc t)) / m
  residue-window s k =
      ap (λ (x : ℕ). x + sum k (λ j. delta t ((s + j) % m))) (sym (residue-count s))
      ∙ sym (sum-append s k (λ j. delta t (j % m)))
      ∙ residue-count (s + k)

  -- at most c times among the first m × c numbers
  pub residue-bound : (q c : ℕ) → q ≤ m * c → sum q (λ j. delta t (j % m)) ≤ c
  residue-bound q c h =
      let l : (q + (m - suc t)) / m < suc c = (div-lt_iff_lt-mul pos).1 (omega arith) in
      rw (residue-count q) (omega arith)

  -- at most once among m consecutive numbers
  pub residue-once : (s k : ℕ) → k ≤ m → sum k (λ j. delta t ((s + j) % m)) ≤ 1
  residue-once s k h =
      let e = residue-window s k in
      let up = div_mono m (s + k + (m - suc t)) (s + (m - suc t) + m) pos (omega arith) in
      let one = add-div_right (s + (m - suc t)) pos in
      omega arith

  -- and at least once
  pub residue-met : (s k : ℕ) → m ≤ k → 1 ≤ sum k (λ j. delta t ((s + j) % m))
  residue-met s k h =
      let e = residue-window s k in
      let up = div_mono m (s + (m - suc t) + m) (s + k + (m - suc t)) pos (omega arith) in
      let one = add-div_right (s + (m - suc t)) pos in
      omega arith

-- k consecutive numbers have the smaller of k and m residues
pub residues-met : (m : ℕ) → 0 < m → (s k : ℕ) → sum m (λ t. min 1 (sum k (λ j. delta t ((s + j) % m)))) ≡ min k m
residues-met m pos s k = go (dec_le k m)
  where
    times : ℕ → ℕ
    times t = sum k (λ j. delta t ((s + j) % m))

    go : Dec (k ≤ m) → sum m (λ t. min 1 (times t)) ≡ min k m
    go (yes few) =
        sum-cong m (λ t. min 1 (times t)) times (λ t l. let once = residue-once m pos t l s k few in omega arith)
        ∙ sum-met m k (λ j. (s + j) % m) (λ j h. mod-lt (s + j) pos)
        ∙ (omega arith)
    go (no many) =
        sum-cong m (λ t. min 1 (times t)) (λ t. 1) (λ t l. let met = residue-met m pos t l s k (omega arith) in omega arith)
        ∙ sum_ones m
        ∙ (omega arith)
