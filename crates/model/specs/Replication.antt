-- Document 01, "Counts and shares", and document 02, U5 and U7. A block's count is its replication factor.
use Rattle.std.specs.Prelude.{Bool, ◌&&◌, ℕ, suc, ◌+◌, ◌*◌, ◌-◌, ◌/◌, ◌<◌, ◌≤◌, min, leb}
use Rattle.order.specs.Sum.{sum}
use Rattle.order.specs.Search.{least, allb, largest}
use Rattle.model.specs.Plan.{Plan, places, block_count, block_of, upper}

-- The most replicas in all: the smaller of budget and M × C. From version 4 on that is the budget, since row 23 refuses a larger one.
unfoldable pub copy_limit : Plan → ℕ
copy_limit p = min p.budget (places p)

-- Lawful counts: each from least copies to the upper count, and the sum within the limit.
pub record FeasibleCounts (p : Plan) (count : ℕ → ℕ) : Type 0 where
  pub at_least : (i : ℕ) → i < block_count p → (block_of p i).min_replicas ≤ count i
  pub at_most : (i : ℕ) → i < block_count p → count i ≤ upper p i
  pub in-limit : sum (block_count p) count ≤ copy_limit p

-- The units in a read, which 1 to 10 divide, and the share of a copy: P × 2520 / count.
abbrev pub unit : ℕ
unit = 2520

unfoldable pub share : ℕ → ℕ → ℕ
share popularity count = popularity * unit / count

-- The largest share at given counts, 0 if B is 0.
unfoldable pub largest_share : Plan → (ℕ → ℕ) → ℕ
largest_share p count = largest (block_count p) (λ i. share (block_of p i).popularity (count i))

-- The least count of block i, from its least copies on, whose share is within the figure; past the upper count where there is none.
unfoldable pub need : Plan → ℕ → ℕ → ℕ
need p figure i =
    let from = (block_of p i).min_replicas in
    from + least (λ more. leb (share (block_of p i).popularity (from + more)) figure) (suc (upper p i) - from)

-- Whether lawful counts keep every share within the figure.
unfoldable pub reachable : Plan → ℕ → Bool
reachable p figure =
    allb (block_count p) (λ i. leb (need p figure i) (upper p i)) && leb (sum (block_count p) (need p figure)) (copy_limit p)

-- The chosen counts: the least figure that is reachable, then for each block the least count within it.
unfoldable pub figure : Plan → ℕ
figure p = least (reachable p) (largest_share p (λ i. (block_of p i).min_replicas))

unfoldable pub chosen : Plan → ℕ → ℕ
chosen p i = need p (figure p) i
