-- Sums over the numbers below a bound.
use Rattle.std.specs.Prelude.{cond, ℕ, zero, suc, ◌+◌, eqb}

-- f 0 + f 1 + .. + f (n - 1)
unfoldable pub sum : ℕ → (ℕ → ℕ) → ℕ
sum zero f = 0
sum (suc n) f = sum n f + f n

-- 1 where the two numbers are equal, else 0.
unfoldable pub delta : ℕ → ℕ → ℕ
delta a b = cond (eqb a b) 1 0
