-- What the functions on words say.
use Rattle.std.specs.Prelude.{◌≡◌, ℕ, ◌+◌, ◌*◌, ◌-◌, ◌^◌, ◌<◌, min, Option, MatchOption}
use Rattle.order.specs.Sum.{sum}
use Rattle.model.specs.Placement.{bit}

-- r is the lowest set bit.
pub record Lowest (word r : ℕ) : Type 0 where
  pub below : r < 64
  pub on : bit word r ≡ 1
  pub first : (k : ℕ) → k < r → bit word k ≡ 0

-- The lowest set bit of the word is taken, or the word has none.
abbrev pub NextOne : ℕ → Option ℕ → ℕ → Type 0
NextOne word taken rest = MatchOption taken ((word ≡ 0) × (rest ≡ 0)) (λ m. Lowest word m × (rest ≡ word - 2 ^ m))

-- Bit x of r, below the size of a piece, is set where one of the pieces has it set.
abbrev pub FoldedTo : ℕ → ℕ → ℕ → ℕ → Type 0
FoldedTo word size total r =
    (pieces x : ℕ) → total ≡ pieces * size → x < size → bit r x ≡ min 1 (sum pieces (λ q. bit word (q * size + x)))
