-- What the rows of a placement handed in are given.
use Rattle.std.specs.Prelude.{◌≡◌, Bool, true, not, List, ℕ, ◌+◌, ◌<◌, ◌≤◌, eqb, length, get_or}
use Rattle.order.specs.Search.{allb}
use Rattle.model.specs.Plan.{Plan, block_count, upper}
use Rattle.model.specs.Refusal.{refuse_if}
use Rattle.model.specs.Replication.{need}
use Rattle.model.specs.Placement.{bit, word_of, count_of, used, all_within, all_spread, all_fit, all_apart}
use Rattle.cluster.specs.declared.Cluster.{Cluster}
use Rattle.cluster.specs.Cluster.{machines_in, InRange, ClusterOf}
use Rattle.cluster.specs.Blocks.{least_in, most_in, linked_to, copies_in, DemandsOf, CountsFit, ProfilesOf}
use Rattle.needs.specs.Needs.{FigureAsked}
use Rattle.loads.specs.declared.Loads.{Loads}

-- A word for every block.
pub record WordsAsked (c : Cluster) (words : List ℕ) : Type 0 where
  pub in-range : InRange c
  pub word_room : c.blocks ≤ length words

-- Words and demands, and a figure within which every block can have its share.
pub record CountsAsked (c : Cluster) (words demands : List ℕ) (figure : ℕ) : Type 0 where
  pub figure-asked : FigureAsked c demands figure
  pub word_room : c.blocks ≤ length words

-- Row 14 for any counts; at the chosen counts it is the model's `all_counted`.
unfoldable pub all_counted_at : Plan → (ℕ → ℕ) → List ℕ → Bool
all_counted_at p count words = allb (block_count p) (λ i. eqb (count_of p words i) (count i))

-- Whether every block has the copies that it needs within the figure; where it has, they are copies that its demand allows.
pub record CountedAs (c : Cluster) (words demands : List ℕ) (figure : ℕ) (r : Bool) : Type 0 where
  pub is : (p : Plan) → DemandsOf p c demands → all_within p words ≡ true → r ≡ all_counted_at p (need p figure) words
  pub at_least : r ≡ true → (i : ℕ) → i < c.blocks → least_in (get_or demands i 0) ≤ copies_in (word_of words i)
  pub at_most : r ≡ true → (i : ℕ) → i < c.blocks → copies_in (word_of words i) ≤ most_in (get_or demands i 0)

-- Rows 13 and 14, for any counts; then rows 15, 16 and 18, which no count enters.
unfoldable pub counts_refusal : Plan → (ℕ → ℕ) → List ℕ → ℕ
counts_refusal p count words = refuse_if (not (all_within p words)) 13 (refuse_if (not (all_counted_at p count words)) 14 0)

unfoldable pub layout_refusal : Plan → List ℕ → ℕ
layout_refusal p words =
    refuse_if (not (all_spread p words)) 15
    (refuse_if (not (all_fit p words)) 16
    (refuse_if (not (all_apart p words)) 18
    0))

-- Rows 13 and 14 at the needs within the figure; where both pass, the counts held fit the demands.
pub record CountsJudged (c : Cluster) (words demands : List ℕ) (figure r : ℕ) : Type 0 where
  pub code_is : (p : Plan) → DemandsOf p c demands → r ≡ counts_refusal p (need p figure) words
  pub fit : r ≡ 0 → (p : Plan) → DemandsOf p c demands → CountsFit c words demands

-- The profiles of plan p's blocks at counts that are at most the upper counts, and words in which every block has a copy.
pub record HeldAt (p : Plan) (count : ℕ → ℕ) (c : Cluster) (words profiles : List ℕ) : Type 0 where
  pub profiles-of : ProfilesOf p count c profiles
  pub at_most : (i : ℕ) → i < block_count p → count i ≤ upper p i
  pub some : (i : ℕ) → i < block_count p → 1 ≤ count_of p words i

-- The copies on plan p's machines.
pub record CopiesOf (p : Plan) (words : List ℕ) (c : Cluster) (loads : Loads) : Type 0 where
  pub cluster-of : ClusterOf p c
  pub copies-are : (m : ℕ) → m < machines_in c → get_or loads.copies m 0 ≡ used p words m

-- Block i shares no machine with the block that its profile links it to, where that is another.
abbrev pub Apart : List ℕ → List ℕ → ℕ → Type 0
Apart words profiles i =
    let other = linked_to (get_or profiles i 0) i in
    (other ≡ i → ⊥) → (k : ℕ) → bit (word_of words i) k + bit (word_of words other) k ≤ 1
