-- Document 01, "First placement", and what a placement's words say: replicas, failure domains, loads, lawfulness, with document
-- 02's pairs (U1).
use Rattle.std.specs.Prelude.{◌≡◌, Bool, true, cond, ◌&&◌, List, ℕ, ◌+◌, ◌*◌, ◌/◌, ◌%◌, ◌^◌, ◌<◌, ◌≤◌, min, leb, ltb, eqb, get_or}
use Rattle.order.specs.Sum.{sum}
use Rattle.order.specs.Table.{table}
use Rattle.order.specs.Search.{allb, largest, smallest}
use Rattle.model.specs.Plan.{Plan, machines, domain, domains, block_count, block_of, is_paired, partner, upper}
use Rattle.model.specs.Replication.{copy_limit, FeasibleCounts, share, chosen}

-- A placement is one word per block; bit m is 1 where machine m holds a copy.
unfoldable pub bit : ℕ → ℕ → ℕ
bit word m = word / 2 ^ m % 2

abbrev pub word_of : List ℕ → ℕ → ℕ
word_of words i = get_or words i 0

abbrev pub held : List ℕ → ℕ → ℕ → ℕ
held words m i = bit (word_of words i) m

-- A block's copies, the copies of it in a domain, and how many domains it lies in.
unfoldable pub replicas : Plan → ℕ → ℕ
replicas p word = sum (machines p) (bit word)

unfoldable pub replicas_in : Plan → ℕ → ℕ → ℕ
replicas_in p word d = sum (machines p) (λ m. cond (eqb (domain p m) d) (bit word m) 0)

unfoldable pub domains_used : Plan → ℕ → ℕ
domains_used p word = sum (domains p) (λ d. min 1 (replicas_in p word d))

-- The counts of a placement, and the copies on machine m.
abbrev pub count_of : Plan → List ℕ → ℕ → ℕ
count_of p words i = replicas p (word_of words i)

unfoldable pub used : Plan → List ℕ → ℕ → ℕ
used p words m = sum (block_count p) (held words m)

-- A lawful placement at given counts.
pub record Feasible (p : Plan) (count : ℕ → ℕ) (words : List ℕ) : Type 0 where
  pub counts : FeasibleCounts p count
  pub within : (i : ℕ) → i < block_count p → word_of words i < 2 ^ machines p
  pub counted : (i : ℕ) → i < block_count p → count_of p words i ≡ count i
  pub spread : (i : ℕ) → i < block_count p → (block_of p i).min_domains ≤ domains_used p (word_of words i)
  pub fits : (m : ℕ) → m < machines p → used p words m ≤ p.capacity
  -- a pair shares no machine
  pub apart : (i : ℕ) → i < block_count p → is_paired p i ≡ true
      → (m : ℕ) → m < machines p → held words m i + held words m (partner p i) ≤ 1

-- The same as tests, a row of the table each: 13, 15, 16 and 18, and whether the placement's own counts are lawful.
unfoldable pub all_within : Plan → List ℕ → Bool
all_within p words = allb (block_count p) (λ i. ltb (word_of words i) (2 ^ machines p))

unfoldable pub all_spread : Plan → List ℕ → Bool
all_spread p words = allb (block_count p) (λ i. leb (block_of p i).min_domains (domains_used p (word_of words i)))

unfoldable pub all_fit : Plan → List ℕ → Bool
all_fit p words = allb (machines p) (λ m. leb (used p words m) p.capacity)

unfoldable pub kept_apart : Plan → List ℕ → ℕ → Bool
kept_apart p words i = allb (machines p) (λ m. leb (held words m i + held words m (partner p i)) 1)

unfoldable pub all_apart : Plan → List ℕ → Bool
all_apart p words = allb (block_count p) (λ i. cond (is_paired p i) (kept_apart p words i) true)

unfoldable pub counts_feasible : Plan → (ℕ → ℕ) → Bool
counts_feasible p count =
    allb (block_count p) (λ i. leb (block_of p i).min_replicas (count i) && leb (count i) (upper p i))
    && leb (sum (block_count p) count) (copy_limit p)

unfoldable pub is_feasible : Plan → List ℕ → Bool
is_feasible p words =
    counts_feasible p (count_of p words) && all_within p words && all_spread p words && all_fit p words && all_apart p words

-- Position t is machine (t mod R) × S + t div R.
unfoldable pub position : Plan → ℕ → ℕ
position p t = t % p.racks * p.rack_size + t / p.racks

-- Copies are laid down in file order, each on the next position, and after M - 1 comes 0: copy q of all is on position q mod M.
unfoldable pub laid_word : Plan → ℕ → ℕ → ℕ
laid_word p start count = sum count (λ j. 2 ^ position p ((start + j) % machines p))

unfoldable pub first_word : Plan → ℕ → ℕ
first_word p i = laid_word p (sum i (chosen p)) (chosen p i)

unfoldable pub first_placement : Plan → List ℕ
first_placement p = table (block_count p) (first_word p)

-- The share of a copy of block i, at the placement's counts, and the load of machine m.
unfoldable pub share_of : Plan → List ℕ → ℕ → ℕ
share_of p words i = share (block_of p i).popularity (count_of p words i)

unfoldable pub load : Plan → List ℕ → ℕ → ℕ
load p words m = sum (block_count p) (λ i. held words m i * share_of p words i)

-- The report: hottest, coolest and total load, and the largest share.
unfoldable pub max_load_of : Plan → List ℕ → ℕ
max_load_of p words = largest (machines p) (load p words)

unfoldable pub min_load_of : Plan → List ℕ → ℕ
min_load_of p words = smallest (machines p) (load p words)

unfoldable pub total_load_of : Plan → List ℕ → ℕ
total_load_of p words = sum (machines p) (load p words)

unfoldable pub max_share : Plan → List ℕ → ℕ
max_share p words = largest (block_count p) (share_of p words)
