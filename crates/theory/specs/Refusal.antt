-- What the rows of the table leave of a plan, and the laws of an accepted one, for everything above the reader.
use Rattle.std.specs.Prelude.{◌≡◌, true, false, List, ◌⊎◌, length, ℕ, suc, ◌%◌, ◌<◌, ◌≤◌}
use Rattle.model.specs.Plan.{Plan, machines, places, domains, block_count, block_of, pairs_next, upper, min_total, format_in, plan_in, record_at}
use Rattle.model.specs.Refusal.{max_machines, max_capacity, max_blocks, judge, accepted}

-- What rows 8 and 9 leave of block i: 1 ≤ least ≤ the upper count, 1 ≤ spread ≤ least, spread ≤ the domains.
pub record ValidBlock (p : Plan) (i : ℕ) : Type 0 where
  pub min-pos : 1 ≤ (block_of p i).min_replicas
  pub min-upper : (block_of p i).min_replicas ≤ upper p i
  pub domains-pos : 1 ≤ (block_of p i).min_domains
  pub domains-min : (block_of p i).min_domains ≤ (block_of p i).min_replicas
  pub domains-all : (block_of p i).min_domains ≤ domains p

-- What row 17 leaves of block i: its byte is 0 or 1; and if it is 1, the next block exists, has 0 and is like it.
pub record ValidPair (p : Plan) (i : ℕ) : Type 0 where
  pub byte-max : (block_of p i).pair_byte ≤ 1
  pub next-below : pairs_next p i ≡ true → suc i < block_count p
  pub next-free : pairs_next p i ≡ true → pairs_next p (suc i) ≡ false
  pub popularity-same : pairs_next p i ≡ true → (block_of p i).popularity ≡ (block_of p (suc i)).popularity
  pub replicas-same : pairs_next p i ≡ true → (block_of p i).min_replicas ≡ (block_of p (suc i)).min_replicas
  pub domains-same : pairs_next p i ≡ true → (block_of p i).min_domains ≡ (block_of p (suc i)).min_domains

-- What rows 4 to 9, 17 and 22 leave of a plan.
pub record Shaped (p : Plan) : Type 0 where
  pub racks-pos : 1 ≤ p.racks
  pub size-pos : 1 ≤ p.rack_size
  pub feeds-pos : 1 ≤ p.feeds
  pub feeds-divide : p.racks % p.feeds ≡ 0
  pub machines-max : machines p ≤ max_machines
  pub capacity-pos : 1 ≤ p.capacity
  pub capacity-max : p.capacity ≤ max_capacity
  pub blocks-max : block_count p ≤ max_blocks
  pub block : (i : ℕ) → i < block_count p → ValidBlock p i
  pub pair : (i : ℕ) → i < block_count p → ValidPair p i

-- What all rows of a plan leave: from version 4 on its budget keeps the places, and its least copies keep the budget and the places.
pub record Valid (p : Plan) : Type 0 where
  pub shaped : Shaped p
  pub budget-usable : 4 ≤ p.version → p.budget ≤ places p
  pub in-budget : min_total p ≤ p.budget
  pub in-places : min_total p ≤ places p

-- The code is not one of 1 to 9, 17, 22 and 23, which come before 10; or of these but 23, which come before it.
abbrev pub PastRow23 : ℕ → Type 0
PastRow23 code = (code ≡ 10) ⊎ (code ≡ 11) ⊎ (code ≡ 0)

abbrev pub PastRow17 : ℕ → Type 0
PastRow17 code = (code ≡ 23) ⊎ PastRow23 code

-- An accepted plan is the one that the bytes hold, it is valid, and the bytes are its header and B records.
pub record Accepted (bytes : List ℕ) (p : Plan) : Type 0 where
  pub held : p ≡ plan_in bytes
  pub valid : Valid p
  pub length-is : length bytes ≡ record_at (format_in bytes) (block_count p)

abbrev pub AcceptedLaws : Type 0
AcceptedLaws = (bytes : List ℕ) (p : Plan) → judge bytes ≡ accepted p → Accepted bytes p
