-- Two machines between which no item can move, nor two be exchanged, differ in load by at most one share and the slack.
-- Nothing of plans: items below n, their shares s, and what the two machines hold as functions u and v to 0 and 1.
-- Assumes nothing.
use mathlib.Core.Path.{◌≡◌, ap, sym, ◌∙◌}
use Prim.Native.Nat.{ℕ, ◌+◌, ◌*◌, ◌-◌, ◌≤◌, ◌<◌}
use native.Mathlib.Nat.{add-mul, mul_comm, mul_left_comm, mul-le-mul_left, mul-lt-mul_of_pos_left, lt_of_mul-lt-mul_left}
use native.Mathlib.Decide.{dec_lt, dec_le}
use native.Mathlib.Omega.{arith}
use Rattle.order.specs.Sum.{sum}
use Rattle.order.proofs.Arithmetic.{factors-pos}
use Rattle.order.proofs.Sums.{sum-mul, sum-scale, sum-balance, sum-term, sum-index}

-- a weighted sum below k times its weights has a term below k, of positive weight
below-mean : (n k : ℕ) (s d : ℕ → ℕ) → sum n (λ h. d h * s h) < k * sum n d → (h : ℕ) × (h < n) × (0 < d h) × (s h < k)
below-mean n k s d lt =
    let found = sum-index n (λ h. d h * s h) (λ h. d h * k) (rw (sum-scale n k d) lt) in
    go found.0 found.1 found.2
  where
    go : (h : ℕ) → h < n → d h * s h < d h * k → (h : ℕ) × (h < n) × (0 < d h) × (s h < k)
    go h l less = (h, l, (factors-pos (d h) k (omega arith)).0, lt_of_mul-lt-mul_left (d h) less)

-- and one whose mean is above c / e has a term above c / e, of positive weight
above-mean : (n c e : ℕ) (s a : ℕ → ℕ) → c * sum n a < e * sum n (λ g. a g * s g) → (g : ℕ) × (g < n) × (0 < a g) × (c < s g * e)
above-mean n c e s a lt =
    let found = sum-index n (λ g. c * a g) (λ g. e * (a g * s g)) (rw (sum-mul n c a, sum-mul n e (λ g. a g * s g)) lt) in
    go found.0 found.1 found.2
  where
    go : (g : ℕ) → g < n → c * a g < e * (a g * s g) → (g : ℕ) × (g < n) × (0 < a g) × (c < s g * e)
    go g l less =
        let product : e * (a g * s g) ≡ a g * (s g * e) = mul_left_comm e (a g) (s g) ∙ ap (λ (x : ℕ). a g * x) (mul_comm e (s g)) in
        let scaled : a g * c < a g * (s g * e) = omega (arith, mul_comm c (a g)) in
        (g, l, (factors-pos (a g) (s g * e) (omega arith)).0, lt_of_mul-lt-mul_left (a g) scaled)

module _ (n : ℕ) (s a d : ℕ → ℕ) (lighter : sum n (λ g. d g * s g) < sum n (λ g. a g * s g)) where
  -- the heavier of two sets has a member of positive share
  some-member : (g : ℕ) × (g < n) × (0 < a g) × (0 < s g)
  some-member =
      let found = sum-index n (λ g. d g * s g) (λ g. a g * s g) lighter in
      let pos = factors-pos (a found.0) (s found.0) (omega (arith, found.2)) in
      (found.0, found.1, pos.0, pos.1)

  -- the lighter one, where it is no smaller, has a member whose share is below that of a member of the heavier
  smaller-member : sum n a ≤ sum n d → (g : ℕ) × (h : ℕ) × (g < n) × (h < n) × (0 < a g) × (0 < d h) × (s h < s g)
  smaller-member le =
      let some = some-member in
      let weight = sum n (λ h. d h * s h) in
      let pos : 0 < sum n d = omega (arith, sum-term n a some.0 some.1, some.2) in
      let products : weight * sum n a < sum n d * sum n (λ g. a g * s g) =
      omega (arith, mul-le-mul_left weight le, mul_comm (sum n d) weight, mul-lt-mul_of_pos_left lighter pos)
      in
      let high = above-mean n weight (sum n d) s a products in
      let low = below-mean n (s high.0) s d high.3 in
      (high.0, low.0, high.1, low.1, high.2, low.2, low.3)

-- 1 where only the first machine holds item g
abbrev only : (ℕ → ℕ) → (ℕ → ℕ) → ℕ → ℕ
only u v g = u g - v g

-- what both machines hold cancels, in sizes and in loads
only-size : (n : ℕ) (u v : ℕ → ℕ) → sum n (only u v) + sum n v ≡ sum n (only v u) + sum n u
only-size n u v = sum-balance n (only u v) v (only v u) u (λ g l. omega arith)

only-load : (n : ℕ) (s u v : ℕ → ℕ)
    → sum n (λ g. only u v g * s g) + sum n (λ g. v g * s g) ≡ sum n (λ g. only v u g * s g) + sum n (λ g. u g * s g)
only-load n s u v =
    sum-balance n (λ g. only u v g * s g) (λ g. v g * s g) (λ g. only v u g * s g) (λ g. u g * s g)
    (λ g l.
    let e : only u v g + v g ≡ only v u g + u g = omega arith in
    sym (add-mul (only u v g) (v g) (s g)) ∙ ap (λ (x : ℕ). x * s g) e ∙ add-mul (only v u g) (u g) (s g))

only-bits : (x y : ℕ) → x ≤ 1 → 0 < x - y → (x ≡ 1) × (y ≡ 0)
only-bits x y h pos = omega arith

-- The heavier machine u is within top + slack of v. Let it be heavier. What both hold cancels, so the items only on u weigh more than
-- those only on v, and one of them has a positive share. Where v has room, that item cannot move, so its share, and the slack, bound
-- the difference. Where v is full, u has no more items than v, so those only on u are no more than those only on v and weigh more:
-- their mean share is higher, so some item only on u has a larger share than some item only on v. The two cannot be exchanged, and
-- the difference of their shares, which is at most a share, bounds the difference of the loads.
pub two-machines : (n : ℕ) (s u v : ℕ → ℕ) (capacity top slack : ℕ)
    → ((g : ℕ) → g < n → u g ≤ 1)
    → ((g : ℕ) → g < n → v g ≤ 1)
    → ((g : ℕ) → g < n → s g ≤ top)
    → sum n u ≤ capacity
    → sum n v ≤ capacity
    → (sum n v < capacity → (g : ℕ) → g < n → u g ≡ 1 → v g ≡ 0 → 0 < s g
    → sum n (λ g. u g * s g) ≤ sum n (λ g. v g * s g) + s g + slack)
    → ((g h : ℕ) → g < n → h < n → u g ≡ 1 → v g ≡ 0 → v h ≡ 1 → u h ≡ 0 → s h < s g
    → sum n (λ g. u g * s g) + s h ≤ sum n (λ g. v g * s g) + s g + slack)
    → sum n (λ g. u g * s g) ≤ sum n (λ g. v g * s g) + top + slack
two-machines n s u v capacity top slack u-bit v-bit s-top u-fits v-fits no_move no-swap =
    go (dec_le (sum n (λ g. u g * s g)) (sum n (λ g. v g * s g))) (dec_lt (sum n v) capacity)
  where
    Goal : Type 0
    Goal = sum n (λ g. u g * s g) ≤ sum n (λ g. v g * s g) + top + slack

    moved : sum n v < capacity → (g : ℕ) × (g < n) × (0 < only u v g) × (0 < s g) → Goal
    moved room found =
        let g = found.0 in
        let bits = only-bits (u g) (v g) (u-bit g found.1) found.2 in
        omega (arith, no_move room g found.1 bits.0 bits.1 found.3, s-top g found.1)

    swapped : (g : ℕ) × (h : ℕ) × (g < n) × (h < n) × (0 < only u v g) × (0 < only v u h) × (s h < s g) → Goal
    swapped found =
        let g = found.0 in
        let h = found.1 in
        let here = only-bits (u g) (v g) (u-bit g found.2) found.4 in
        let there = only-bits (v h) (u h) (v-bit h found.3) found.5 in
        omega (arith, no-swap g h found.2 found.3 here.0 here.1 there.0 there.1 found.6, s-top g found.2)

    go : Dec (sum n (λ g. u g * s g) ≤ sum n (λ g. v g * s g)) → Dec (sum n v < capacity) → Goal
    go (yes le) room = omega arith
    go (no more) room =
        let lighter : sum n (λ g. only v u g * s g) < sum n (λ g. only u v g * s g) = omega (arith, only-load n s u v) in
        elim room [
          | yes r ↦ moved r (some-member n s (only u v) (only v u) lighter)
          | no r ↦
              let le : sum n (only u v) ≤ sum n (only v u) = omega (arith, only-size n u v) in
              swapped (smaller-member n s (only u v) (only v u) lighter le)
        ]
