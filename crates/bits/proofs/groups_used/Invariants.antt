-- `bits::groups_used` meets its contract. The loop's invariant: `used` counts the ranges passed that have a bit set.
-- Assumes nothing.
use mathlib.Core.Path.{◌≡◌}
use Prim.Native.Nat.{ℕ, ◌+◌, ◌*◌, ◌≤◌, min}
use Rattle.order.specs.Sum.{sum}
use Rattle.model.specs.Placement.{bit}
use Rattle.bits.proofs.groups_used.Given as goal

-- whether group d has a bit set, 1 or 0
abbrev pub hit : ℕ → ℕ → ℕ → ℕ
hit word size d = min 1 (sum size (λ x. bit word (d * size + x)))

abbrev pub invariant-loop-d : goal.invariant-loop-d
invariant-loop-d l = (l.d ≤ l.groups) × (l.used ≡ sum l.d (hit l.word l.size)) × (l.used ≤ l.d)
