-- Laws of products and quotients.
-- Assumes nothing.
use mathlib.Core.Path.{◌≡◌, ap, sym, ◌∙◌}
use Prim.Native.Nat.{ℕ, zero, suc, ◌+◌, ◌*◌, ◌/◌, ◌%◌, ◌≤◌, ◌<◌}
use native.Mathlib.Nat.{zero-mul, mul-zero, le_trans, mul-le-mul_left, div-mul-le_self, le-div_iff_mul-le, mod-lt, mod-eq_of_lt, div-add-mod', add-mul, mul_assoc}
use native.Mathlib.Decide.{dec_lt}
use native.Mathlib.Omega.{arith}
use lib.Arith.{digits_lt, digits_mod}

-- both factors of a positive product are positive
pub factors-pos : (a b : ℕ) → 0 < a * b → (0 < a) × (0 < b)
factors-pos zero b h = let z = zero-mul b in absurd (omega arith)
factors-pos (suc a) zero h = let z = mul-zero (suc a) in absurd (omega arith)
factors-pos (suc a) (suc b) h = omega arith

pub div_mono : (m a b : ℕ) → 0 < m → a ≤ b → a / m ≤ b / m
div_mono m a b pos h = (le-div_iff_mul-le pos).1 (le_trans (div-mul-le_self a m) h)

pub div-antitone : (n j k : ℕ) → 0 < j → j ≤ k → n / k ≤ n / j
div-antitone n j k pos h = (le-div_iff_mul-le pos).1 (le_trans (mul-le-mul_left (n / k) h) (div-mul-le_self n k))

-- the remainder at a product, digit by digit
pub mod-digits : (n a b : ℕ) → 1 ≤ a → 1 ≤ b → n % (a * b) ≡ n / b % a * b + n % b
mod-digits n a b some one =
    let high = n / b / a in
    let split : high * (a * b) + (n / b % a * b + n % b) ≡ n =
    omega (arith, div-add-mod' n b, ap (λ (q : ℕ). q * b) (div-add-mod' (n / b) a), add-mul (high * a) (n / b % a) b, mul_assoc high a b)
    in
    ap (λ (x : ℕ). x % (a * b)) (sym split) ∙ digits_mod high (digits_lt (mod-lt (n / b) some) (mod-lt n one))

-- a divisor of a number above 0 is not above it
pub divisor-le : (n d : ℕ) → 1 ≤ n → n % d ≡ 0 → d ≤ n
divisor-le n d some whole = elim (dec_lt n d) [
  | yes above ↦ absurd (omega (arith, mod-eq_of_lt above))
  | no within ↦ omega arith
]
