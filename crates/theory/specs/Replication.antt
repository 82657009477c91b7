-- Document 01, "Counts and shares": what is claimed of shares and of the chosen counts.
use Rattle.std.specs.Prelude.{◌≡◌, true, ℕ, ◌*◌, ◌<◌, ◌≤◌}
use Rattle.std.specs.Int.{◌∣◌}
use Rattle.order.specs.Sum.{sum}
use Rattle.model.specs.Plan.{Plan, block_count, block_of, is_paired, partner, upper}
use Rattle.model.specs.Replication.{FeasibleCounts, unit, share, largest_share, figure, chosen}
use Rattle.theory.specs.Widths.{most_replicas}
use Rattle.theory.specs.Refusal.{Valid}
use Rattle.theory.specs.Units.{DividedBy}

-- Every number from 1 to the most copies of any version divides the unit.
abbrev pub UnitDivides : Type 0
UnitDivides = DividedBy most_replicas unit

pub record ShareLaws : Type 0 where
  -- The share of a copy is P × 2520 / count, in 2520ths of a read: it is whole at a count that divides the unit, and every count does.
  pub exact : (P k : ℕ) → k ∣ unit → share P k * k ≡ P * unit
  pub divides : UnitDivides
  -- More copies have smaller shares.
  pub falls : (P j k : ℕ) → 1 ≤ j → j ≤ k → share P k ≤ share P j
  -- The sum of all loads is 2520 times the sum of all popularities, whichever lawful counts are used.
  pub conserved : (p : Plan) (count : ℕ → ℕ) → Valid p → FeasibleCounts p count
      → sum (block_count p) (λ i. count i * share (block_of p i).popularity (count i))
      ≡ unit * sum (block_count p) (λ i. (block_of p i).popularity)

-- The largest share is as small as any lawful counts make it.
abbrev pub Optimal : Plan → (ℕ → ℕ) → Type 0
Optimal p count = (other : ℕ → ℕ) → FeasibleCounts p other → largest_share p count ≤ largest_share p other

-- Each block has the smallest lawful count that keeps its share within the figure.
abbrev pub Smallest : Plan → ℕ → (ℕ → ℕ) → Type 0
Smallest p bound count =
    (i k : ℕ) → i < block_count p → (block_of p i).min_replicas ≤ k → k ≤ upper p i
    → share (block_of p i).popularity k ≤ bound
    → count i ≤ k

-- Document 02, U1: the two blocks of a pair have as many copies.
abbrev pub EvenPairs : Plan → (ℕ → ℕ) → Type 0
EvenPairs p count = (i : ℕ) → i < block_count p → is_paired p i ≡ true → count (partner p i) ≡ count i

-- The chosen counts are lawful, and among the lawful counts the document's choice.
pub record ChosenLaws (p : Plan) : Type 0 where
  pub feasible : FeasibleCounts p (chosen p)
  pub optimal : Optimal p (chosen p)
  -- The figure that they keep within is their largest share.
  pub figure-is : largest_share p (chosen p) ≡ figure p
  pub within : (i : ℕ) → i < block_count p → share (block_of p i).popularity (chosen p i) ≤ figure p
  pub smallest-count : Smallest p (figure p) (chosen p)
  -- A block with P = 0 has its least copies.
  pub unpopular : (i : ℕ) → i < block_count p → (block_of p i).popularity ≡ 0 → chosen p i ≡ (block_of p i).min_replicas
  pub even : EvenPairs p (chosen p)

abbrev pub ChosenCounts : Type 0
ChosenCounts = (p : Plan) → Valid p → ChosenLaws p

-- No other counts are the document's choice.
abbrev pub ChosenUnique : Type 0
ChosenUnique =
    (p : Plan) → Valid p
    → (count : ℕ → ℕ) → FeasibleCounts p count → Optimal p count → Smallest p (largest_share p count) count
    → (i : ℕ) → i < block_count p → count i ≡ chosen p i
