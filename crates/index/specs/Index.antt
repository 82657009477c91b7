-- The index of a placement: four parts of 1,024 words. For each machine the bit set of its blocks by number, sixteen words each; the
-- same by rank; the keys of the blocks by rising share; and each block's rank. Beside them a word for each machine, its load.
use Rattle.std.specs.Prelude.{◌≡◌, List, ℕ, ◌+◌, ◌*◌, ◌/◌, ◌%◌, ◌<◌, ◌≤◌, length, get_or, Option, Some, None}
use Rattle.model.specs.Refusal.{max_machines, max_blocks}
use Rattle.model.specs.Placement.{bit, held}
use Rattle.cluster.specs.declared.Cluster.{Cluster}
use Rattle.cluster.specs.Cluster.{InRange}
use Rattle.cluster.specs.Blocks.{share_in}
use Rattle.ranking.specs.Ranks.{key_share}
use Rattle.index.specs.declared.Index.{Index}

-- Whether machine m holds the block at place i of a part, by number or by rank: 0 or 1.
unfoldable pub spot : List ℕ → ℕ → ℕ → ℕ
spot part m i = bit (get_or part (m * 16 + i / 64) 0) (i % 64)

-- The share of the block at rank r, and block i's rank.
abbrev pub key_at : Index → ℕ → ℕ
key_at index r = get_or index.keys r 0

abbrev pub share_at : Index → ℕ → ℕ
share_at index r = key_share (key_at index r)

abbrev pub rank_at : Index → ℕ → ℕ
rank_at index i = get_or index.ranks i 0

-- The load of machine m.
abbrev pub load_at : Index → ℕ → ℕ
load_at index m = get_or index.loads m 0

-- The blocks by rising share: every block has a rank of its own, at which its share stands.
pub record Ordered (c : Cluster) (profiles : List ℕ) (index : Index) : Type 0 where
  pub rank_below : (i : ℕ) → i < c.blocks → rank_at index i < c.blocks
  pub rank-share : (i : ℕ) → i < c.blocks → share_at index (rank_at index i) ≡ share_in (get_or profiles i 0)
  pub rank-apart : (i j : ℕ) → i < c.blocks → j < c.blocks → rank_at index i ≡ rank_at index j → i ≡ j
  pub rising : (r q : ℕ) → r ≤ q → q < c.blocks → share_at index r ≤ share_at index q

-- The bit sets are empty.
pub record Cleared (index : Index) : Type 0 where
  pub by_number : (k : ℕ) → get_or index.by_number k 0 ≡ 0
  pub by_rank : (k : ℕ) → get_or index.by_rank k 0 ≡ 0

-- The keys, the ranks and the loads are as they were.
pub record Kept (index later : Index) : Type 0 where
  pub keys : later.keys ≡ index.keys
  pub ranks : later.ranks ≡ index.ranks
  pub loads : later.loads ≡ index.loads

-- With the machines' blocks, by number and by rank.
pub record Indexed (c : Cluster) (words profiles : List ℕ) (index : Index) : Type 0 where
  pub ordered : Ordered c profiles index
  pub by_number : (m i : ℕ) → m < max_machines → i < c.blocks → spot index.by_number m i ≡ held words m i
  pub by_rank : (m i : ℕ) → m < max_machines → i < c.blocks → spot index.by_rank m (rank_at index i) ≡ held words m i

-- Machine m has no entry at place i.
pub record MarkAsked (part : List ℕ) (m i : ℕ) : Type 0 where
  pub m-below : m < max_machines
  pub below : i < max_blocks
  pub clear : spot part m i ≡ 0

-- Place i is entered at machine m, and nothing else has changed.
pub record MarkedAt (part : List ℕ) (m i : ℕ) (later : List ℕ) : Type 0 where
  pub here : spot later m i ≡ 1
  pub others : (n k : ℕ) → n < max_machines → k < max_blocks → ((n ≡ m) × (k ≡ i) → ⊥) → spot later n k ≡ spot part n k

-- Block i and its rank stand nowhere yet.
pub record EnterAsked (index : Index) (i : ℕ) : Type 0 where
  pub below : i < max_blocks
  pub rank_below : rank_at index i < max_blocks
  pub clear-number : (m : ℕ) → m < max_machines → spot index.by_number m i ≡ 0
  pub clear-rank : (m : ℕ) → m < max_machines → spot index.by_rank m (rank_at index i) ≡ 0

-- One part with place i entered at the machines that the word names.
pub record Marked (part : List ℕ) (word i : ℕ) (later : List ℕ) : Type 0 where
  pub here : (m : ℕ) → m < max_machines → spot later m i ≡ bit word m
  pub others : (m k : ℕ) → m < max_machines → k < max_blocks → (k ≡ i → ⊥) → spot later m k ≡ spot part m k

-- Block i is entered at the machines that its word names, by number and by rank; the rest stays.
pub record Entered (index : Index) (word i : ℕ) (later : Index) : Type 0 where
  pub numbered : Marked index.by_number word i later.by_number
  pub ranked : Marked index.by_rank word (rank_at index i) later.by_rank
  pub kept : Kept index later

-- A word for every block, and an index that has some blocks in order.
pub record FillAsked (c : Cluster) (words : List ℕ) (index : Index) : Type 0 where
  pub in-range : InRange c
  pub word_room : c.blocks ≤ length words
  pub profiles : List ℕ
  pub ordered : Ordered c profiles index
  pub cleared : Cleared index

pub record NextAsked (m n from : ℕ) (c : Cluster) : Type 0 where
  pub m-below : m < max_machines
  pub n-below : n < max_machines
  pub from-max : from ≤ max_blocks
  pub blocks-max : c.blocks ≤ max_blocks

-- No place from `from` on and below `to` is one at which m holds a block and n does not.
abbrev pub NoneFree : List ℕ → ℕ → ℕ → ℕ → ℕ → Type 0
NoneFree part m n from to = (k : ℕ) → from ≤ k → k < to → spot part m k ≡ 1 → spot part n k ≡ 0 → ⊥

-- r is the first place from `from` on at which m holds a block and n does not.
pub record NextAt (part : List ℕ) (m n from : ℕ) (c : Cluster) (r : ℕ) : Type 0 where
  pub at_least : from ≤ r
  pub below : r < c.blocks
  pub passed : NoneFree part m n from r
  pub holds : spot part m r ≡ 1
  pub lacks : spot part n r ≡ 0

-- The first such place, or none up to the last block.
abbrev pub NextOf : List ℕ → ℕ → ℕ → ℕ → Cluster → Option ℕ → Type 0
NextOf part m n from c (Some r) = NextAt part m n from c r
NextOf part m n from c None = NoneFree part m n from c.blocks

-- Blocks by rising share.
pub record AboveAsked (index : Index) (c : Cluster) : Type 0 where
  pub blocks-max : c.blocks ≤ max_blocks
  pub rising : (r q : ℕ) → r ≤ q → q < c.blocks → share_at index r ≤ share_at index q

-- r is the first rank whose share is above the bound, or past the last block.
pub record AboveOf (index : Index) (bound : ℕ) (c : Cluster) (r : ℕ) : Type 0 where
  pub within : r ≤ c.blocks
  pub passed : (k : ℕ) → k < r → share_at index k ≤ bound
  pub above : (k : ℕ) → r ≤ k → k < c.blocks → bound < share_at index k
