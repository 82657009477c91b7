-- Sums over a range cut into pieces, one after the other or all of one size, and over the values of a function.
-- Assumes nothing.
use mathlib.Core.Path.{◌≡◌, refl, ap, ap₂, sym, ◌∙◌}
use Prim.Native.Nat.{ℕ, zero, suc, ◌+◌, ◌*◌, ◌/◌, ◌%◌, ◌<◌}
use native.Mathlib.Nat.{add-zero, add-suc, zero-mul, suc-mul, mul_comm}
use native.Mathlib.Omega.{arith}
use lib.Arith.{digits_div, digits_mod}
use Rattle.order.specs.Sum.{sum, delta}
use Rattle.order.proofs.Sums.{sum-cong, sum-mul, sum_ones, sum-exchange, sum-delta}

-- a range cut in two
pub sum-append : (a b : ℕ) (f : ℕ → ℕ) → sum (a + b) f ≡ sum a f + sum b (λ j. f (a + j))
unfolding sum
sum-append a zero f = simp add-zero
sum-append a (suc b) f = let e = sum-append a b f in rw add-suc (omega arith)

-- a range cut into n pieces of the lengths `count`: the i-th begins at their sum below i
pub sum-pieces : (n : ℕ) (count f : ℕ → ℕ) → sum n (λ i. sum (count i) (λ j. f (sum i count + j))) ≡ sum (sum n count) f
unfolding sum
sum-pieces zero count f = refl
sum-pieces (suc n) count f =
    ap (λ (x : ℕ). x + sum (count n) (λ j. f (sum n count + j))) (sum-pieces n count f)
    ∙ sym (sum-append (sum n count) (count n) f)

-- a range cut into groups of equal size: the numbers r × size + x with x below the size are group r
pub sum-groups : (groups size : ℕ) (f : ℕ → ℕ) → sum (groups * size) f ≡ sum groups (λ r. sum size (λ x. f (r * size + x)))
unfolding sum
sum-groups zero size f = rw zero-mul
sum-groups (suc groups) size f = rw suc-mul (sum-append (groups * size) size f ∙ ap (λ (t : ℕ). t + sum size (λ x. f (groups * size + x))) (sum-groups groups size f))

-- the terms of every `stride`-th group, from group d on
pub sum-strided : (turns stride size d : ℕ) (f : ℕ → ℕ) → d < stride
    → sum (turns * stride * size) (λ m. delta (m / size % stride) d * f m)
    ≡ sum (turns * size) (λ x. f ((x / size * stride + d) * size + x % size))
sum-strided turns stride size d f l =
    sum-groups (turns * stride) size (λ m. delta (m / size % stride) d * f m)
    ∙ sum-cong (turns * stride) _ (λ r. delta (r % stride) d * group r) (λ r h. picked r)
    ∙ sum-groups turns stride (λ r. delta (r % stride) d * group r)
    ∙ sum-cong turns _ (λ q. group (q * stride + d)) (λ q h. turn q)
    ∙ sum-cong turns _ (λ q. sum size (λ x. at (q * size + x))) (λ q h. sum-cong size _ (λ x. at (q * size + x)) (λ x k. place q x k))
    ∙ sym (sum-groups turns size at)
  where
    group : ℕ → ℕ
    group r = sum size (λ x. f (r * size + x))

    at : ℕ → ℕ
    at x = f ((x / size * stride + d) * size + x % size)

    picked : (r : ℕ) → sum size (λ x. delta ((r * size + x) / size % stride) d * f (r * size + x)) ≡ delta (r % stride) d * group r
    picked r =
        sum-cong size _ (λ x. delta (r % stride) d * f (r * size + x))
        (λ x h. ap (λ (q : ℕ). delta (q % stride) d * f (r * size + x)) (digits_div r h))
        ∙ sum-mul size (delta (r % stride) d) (λ x. f (r * size + x))

    turn : (q : ℕ) → sum stride (λ e. delta ((q * stride + e) % stride) d * group (q * stride + e)) ≡ group (q * stride + d)
    turn q =
        sum-cong stride _ (λ e. delta e d * group (q * stride + e))
        (λ e h. ap (λ (r : ℕ). delta r d * group (q * stride + e)) (digits_mod q h))
        ∙ sum-delta stride d (λ e. group (q * stride + e)) l

    place : (q x : ℕ) → x < size → f ((q * stride + d) * size + x) ≡ at (q * size + x)
    place q x h = sym (ap₂ (λ (r y : ℕ). f ((r * stride + d) * size + y)) (digits_div q h) (digits_mod q h))

-- a sum over the values of x, each as often as it is met, is one over its arguments
pub sum-image : (n k : ℕ) (x f : ℕ → ℕ) → ((j : ℕ) → j < k → x j < n)
    → sum n (λ i. f i * sum k (λ j. delta i (x j))) ≡ sum k (λ j. f (x j))
sum-image n k x f inside =
    sum-cong n (λ i. f i * sum k (λ j. delta i (x j))) (λ i. sum k (λ j. f i * delta i (x j)))
    (λ i h. sym (sum-mul k (f i) (λ j. delta i (x j))))
    ∙ sum-exchange n k (λ i j. f i * delta i (x j))
    ∙ sum-cong k (λ j. sum n (λ i. f i * delta i (x j))) (λ j. f (x j))
    (λ j h.
    sum-cong n (λ i. f i * delta i (x j)) (λ i. delta i (x j) * f i) (λ i l. mul_comm (f i) (delta i (x j)))
    ∙ sum-delta n (x j) f (inside j h))

-- every argument has one value
pub sum-met : (n k : ℕ) (x : ℕ → ℕ) → ((j : ℕ) → j < k → x j < n) → sum n (λ i. sum k (λ j. delta i (x j))) ≡ k
sum-met n k x inside =
    sum-cong n (λ i. sum k (λ j. delta i (x j))) (λ i. 1 * sum k (λ j. delta i (x j))) (λ i h. omega arith)
    ∙ sum-image n k x (λ i. 1) inside
    ∙ sum_ones k
