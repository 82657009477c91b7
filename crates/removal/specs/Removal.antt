-- What the functions of a deletion ask for and give.
use Rattle.std.specs.Prelude.{◌≡◌, List, ◌++◌, ℕ, ◌+◌, ◌<◌, ◌≤◌, length, take, drop, replicate}
use Rattle.order.specs.Table.{cut}
use Rattle.model.specs.Plan.{Plan, block_count}
use Rattle.model.specs.Recordings.{first_gone, gone_count, after_deletion}
use Rattle.theory.specs.Refusal.{Shaped}
use Rattle.cluster.specs.Blocks.{link_of, link_in, Linked}
use Rattle.removal.specs.declared.Gone.{Gone}

-- These are the blocks of plan p that go with block i.
pub record GoneOf (p : Plan) (i : ℕ) (gone : Gone) : Type 0 where
  pub first-is : gone.first ≡ first_gone p i
  pub count-is : gone.count ≡ gone_count p i

-- They are so for every plan whose link the word ends in, and lie below every bound that the link keeps.
pub record GoneWith (word i : ℕ) (gone : Gone) : Type 0 where
  pub below : (blocks : ℕ) → i < blocks → Linked blocks word i → gone.first + gone.count ≤ blocks
  pub of : (p : Plan) → Shaped p → i < block_count p → link_in word ≡ link_of p i → GoneOf p i gone

-- So many words go from `first` on, below the `blocks`, and the words have room for these.
pub record CloseAsked (words : List ℕ) (blocks first count : ℕ) : Type 0 where
  pub inside : first + count ≤ blocks
  pub room : blocks ≤ length words

-- The other words of the `blocks` in order, the vacated ones 0, and the words past them as they were.
unfoldable pub closed_up : ℕ → ℕ → ℕ → List ℕ → List ℕ
closed_up blocks first count words = cut first count (take blocks words) ++ replicate count 0 ++ drop blocks words

-- Block i is deleted from the words of plan p.
pub record Removed (p : Plan) (i : ℕ) (words words' : List ℕ) (gone : Gone) : Type 0 where
  pub words_are : words' ≡ after_deletion p i words
  pub gone_of : GoneOf p i gone
