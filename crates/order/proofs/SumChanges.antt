-- How a sum changes when few of its terms do.
-- Assumes nothing.
use mathlib.Core.Path.{◌≡◌, ap, sym, ◌∙◌}
use Prim.Native.Nat.{ℕ, ◌+◌, ◌*◌, ◌≤◌, ◌<◌}
use native.Mathlib.Nat.{mul-lt-mul_of_pos_right}
use native.Mathlib.Decide.{ℕ_discrete}
use native.Mathlib.Omega.{arith}
use Rattle.order.specs.Sum.{sum, delta}
use Rattle.order.proofs.Sums.{sum-cong, sum-add, sum-delta, delta-same, delta-other}

-- a term picked out by delta, added
sum-plus : (n a : ℕ) (f x : ℕ → ℕ) → a < n → sum n (λ k. f k + delta k a * x k) ≡ sum n f + x a
sum-plus n a f x l = sum-add n f (λ k. delta k a * x k) ∙ ap (λ (z : ℕ). sum n f + z) (sum-delta n a x l)

-- x goes at a, y comes at b
pub sum-change : (n a b : ℕ) (f g x y : ℕ → ℕ) → a < n → b < n
    → ((k : ℕ) → k < n → g k + delta k a * x k ≡ f k + delta k b * y k)
    → sum n g + x a ≡ sum n f + y b
sum-change n a b f g x y la lb e =
    sym (sum-plus n a g x la) ∙ sum-cong n (λ k. g k + delta k a * x k) (λ k. f k + delta k b * y k) e ∙ sum-plus n b f y lb

-- two functions that agree but at a and b
pub sum-two : (n a b : ℕ) (f g : ℕ → ℕ) → a < n → b < n → (a ≡ b → ⊥)
    → ((k : ℕ) → k < n → (k ≡ a → ⊥) → (k ≡ b → ⊥) → g k ≡ f k)
    → sum n g + f a + f b ≡ sum n f + g a + g b
sum-two n a b f g la lb apart e =
    sym (both g f) ∙ sum-cong n (λ k. g k + delta k a * f k + delta k b * f k) (λ k. f k + delta k a * g k + delta k b * g k) at ∙ both f g
  where
    both : (u x : ℕ → ℕ) → sum n (λ k. u k + delta k a * x k + delta k b * x k) ≡ sum n u + x a + x b
    both u x = sum-plus n b (λ k. u k + delta k a * x k) x lb ∙ ap (λ (z : ℕ). z + x b) (sum-plus n a u x la)

    at : (k : ℕ) → k < n → g k + delta k a * f k + delta k b * f k ≡ f k + delta k a * g k + delta k b * g k
    at k l = go (ℕ_discrete k a) (ℕ_discrete k b)
      where
        go : Dec (k ≡ a) → Dec (k ≡ b) → g k + delta k a * f k + delta k b * f k ≡ f k + delta k a * g k + delta k b * g k
        go (yes p) (yes q) = absurd (apart (sym p ∙ q))
        go (yes p) (no q) = rw (delta-same k a p, delta-other k b q) (omega arith)
        go (no p) (yes q) = rw (delta-other k a p, delta-same k b q) (omega arith)
        go (no p) (no q) = rw (delta-other k a p, delta-other k b q, e k l p q)

-- what a higher term gives to a lower one, staying above it, lowers the sum of squares
pub squares-fall : (n a b d : ℕ) (f g : ℕ → ℕ) → a < n → b < n → (a ≡ b → ⊥)
    → g a + d ≡ f a → g b ≡ f b + d → ((k : ℕ) → k < n → (k ≡ a → ⊥) → (k ≡ b → ⊥) → g k ≡ f k)
    → 0 < d → f b < g a
    → sum n (λ k. g k * g k) + 2 ≤ sum n (λ k. f k * f k)
squares-fall n a b d f g la lb apart ea eb same pos higher =
    let whole = sum-two n a b (λ k. f k * f k) (λ k. g k * g k) la lb apart (λ k l p q. rw (same k l p q)) in
    let fa : (g a + d) * (g a + d) ≡ f a * f a = rw ea in
    let gb : g b * g b ≡ (f b + d) * (f b + d) = rw eb in
    let product = mul-lt-mul_of_pos_right higher pos in
    omega arith
