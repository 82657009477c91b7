-- `bits::fold` meets its contract. The loop's invariant: the pieces before `at` are laid over one another.
-- Assumes nothing.
use mathlib.Core.Path.{◌≡◌}
use Prim.Native.Nat.{ℕ, ◌+◌, ◌*◌, ◌-◌, ◌<◌, min}
use Rattle.order.specs.Sum.{sum}
use Rattle.model.specs.Placement.{bit}
use Rattle.bits.proofs.fold.Given as goal

-- bit x of the first k pieces
abbrev pub laid : ℕ → ℕ → ℕ → ℕ → ℕ
laid word size k x = sum k (λ q. bit word (q * size + x))

abbrev pub invariant-loop-at : goal.invariant-loop-at
invariant-loop-at l =
    (k : ℕ) × (l.at ≡ k * l.size) × (l.at < l.total + l.size) × ((x : ℕ) → bit l.folded x ≡ min 1 (laid l.word l.size k x))

abbrev pub decreases-loop-at : goal.decreases-loop-at
decreases-loop-at l = l.total - l.at
