-- A block's numbers in one word: what the plan demands of it, and its profile once its count is chosen. A further number of a
-- block is a field more here, and no function between the reader and the search gets another parameter.
use Rattle.std.specs.Prelude.{◌≡◌, cond, List, ℕ, ◌+◌, ◌*◌, ◌-◌, ◌/◌, ◌%◌, ◌^◌, ◌<◌, ◌≤◌, length, get_or}
use Rattle.order.specs.Sum.{sum}
use Rattle.model.specs.Plan.{Plan, block_of, pairs_next, pairs_back, is_paired, partner, upper}
use Rattle.model.specs.Replication.{share}
use Rattle.model.specs.Refusal.{max_machines}
use Rattle.model.specs.Placement.{bit, word_of, Feasible}
use Rattle.theory.specs.Widths.{most_replicas, popularity_bound, share_bound}
use Rattle.cluster.specs.declared.Cluster.{Cluster}
use Rattle.cluster.specs.Cluster.{machines_in, InRange, ClusterOf}

-- Where a block's partner stands, told by a link: 0 for the preceding block, 2 for the next one, 1 for a block that has none. Both
-- words end in it, in two bits.
unfoldable pub link_of : Plan → ℕ → ℕ
link_of p i = cond (pairs_next p i) 2 (cond (pairs_back p i) 0 1)

abbrev pub link_in : ℕ → ℕ
link_in word = word % 4

-- The block that the link of block i names: its partner, or i itself where it has none.
abbrev pub linked_to : ℕ → ℕ → ℕ
linked_to word i = i + link_in word - 1

unfoldable pub mate : Plan → ℕ → ℕ
mate p i = cond (is_paired p i) (partner p i) i

-- A demand: the popularity; the least copies, the spread and the upper count, in eight bits each; the link.
abbrev pub demand_word : ℕ → ℕ → ℕ → ℕ → ℕ → ℕ
demand_word popularity least spread most link = (((popularity * 256 + least) * 256 + spread) * 256 + most) * 4 + link

abbrev pub popularity_in : ℕ → ℕ
popularity_in demand = demand / 67108864

abbrev pub least_in : ℕ → ℕ
least_in demand = demand / 262144 % 256

abbrev pub spread_asked : ℕ → ℕ
spread_asked demand = demand / 1024 % 256

abbrev pub most_in : ℕ → ℕ
most_in demand = demand / 4 % 256

-- A profile: the share of a copy; the count and the spread, in eight bits each; the link.
abbrev pub profile_word : ℕ → ℕ → ℕ → ℕ → ℕ
profile_word share count spread link = ((share * 256 + count) * 256 + spread) * 4 + link

abbrev pub share_in : ℕ → ℕ
share_in profile = profile / 262144

abbrev pub count_in : ℕ → ℕ
count_in profile = profile / 1024 % 256

abbrev pub spread_in : ℕ → ℕ
spread_in profile = profile / 4 % 256

-- Block i of plan p: its demand, and its profile at given counts.
unfoldable pub demand_of : Plan → ℕ → ℕ
demand_of p i =
    demand_word (block_of p i).popularity (block_of p i).min_replicas (block_of p i).min_domains (upper p i) (link_of p i)

unfoldable pub profile_of : Plan → (ℕ → ℕ) → ℕ → ℕ
profile_of p count i =
    profile_word (share (block_of p i).popularity (count i)) (count i) (block_of p i).min_domains (link_of p i)

-- One demand in its ranges.
pub record DemandInRange (demand : ℕ) : Type 0 where
  pub popularity-narrow : popularity_in demand < popularity_bound
  pub least-pos : 1 ≤ least_in demand
  pub least-most : least_in demand ≤ most_in demand
  pub most-max : most_in demand ≤ most_replicas

-- The link of block i names one of so many blocks.
pub record Linked (blocks word i : ℕ) : Type 0 where
  pub some : 1 ≤ i + link_in word
  pub below : i + link_in word ≤ blocks

-- These demands have room and range.
pub record DemandsFit (c : Cluster) (demands : List ℕ) : Type 0 where
  pub in-range : InRange c
  pub room : c.blocks ≤ length demands
  pub each : (i : ℕ) → i < c.blocks → DemandInRange (get_or demands i 0)
  pub linked : (i : ℕ) → i < c.blocks → Linked c.blocks (get_or demands i 0) i

-- They hold the numbers of plan p.
pub record DemandsOf (p : Plan) (c : Cluster) (demands : List ℕ) : Type 0 where
  pub cluster : ClusterOf p c
  pub are : (i : ℕ) → i < c.blocks → get_or demands i 0 ≡ demand_of p i

-- The copies that a word names.
abbrev pub copies_in : ℕ → ℕ
copies_in word = sum max_machines (bit word)

-- These words have room, name machines of the cluster alone, and hold copies from the least to the most that the demands allow.
pub record CountsFit (c : Cluster) (words demands : List ℕ) : Type 0 where
  pub demands-fit : DemandsFit c demands
  pub word_room : c.blocks ≤ length words
  pub within : (i : ℕ) → i < c.blocks → word_of words i < 2 ^ machines_in c
  pub at_least : (i : ℕ) → i < c.blocks → least_in (get_or demands i 0) ≤ copies_in (word_of words i)
  pub at_most : (i : ℕ) → i < c.blocks → copies_in (word_of words i) ≤ most_in (get_or demands i 0)

-- These profiles have room and range.
pub record ProfilesFit (c : Cluster) (profiles : List ℕ) : Type 0 where
  pub in-range : InRange c
  pub room : c.blocks ≤ length profiles
  pub narrow : (i : ℕ) → i < c.blocks → share_in (get_or profiles i 0) < share_bound
  pub linked : (i : ℕ) → i < c.blocks → Linked c.blocks (get_or profiles i 0) i

-- They hold the numbers of plan p at these counts.
pub record ProfilesOf (p : Plan) (count : ℕ → ℕ) (c : Cluster) (profiles : List ℕ) : Type 0 where
  pub cluster : ClusterOf p c
  pub are : (i : ℕ) → i < c.blocks → get_or profiles i 0 ≡ profile_of p count i

-- A placement's words and its blocks' profiles have room and range.
pub record PlacementFits (c : Cluster) (words profiles : List ℕ) : Type 0 where
  pub profiles-fit : ProfilesFit c profiles
  pub word_room : c.blocks ≤ length words

-- They are those of a lawful placement of plan p at these counts.
pub record PlacementOf (p : Plan) (count : ℕ → ℕ) (c : Cluster) (words profiles : List ℕ) : Type 0 where
  pub profiles-of : ProfilesOf p count c profiles
  pub feasible : Feasible p count words
