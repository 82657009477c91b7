-- What the choice of counts is given and says, in the model's terms.
use Rattle.std.specs.Prelude.{◌≡◌, List, true, false, ℕ, ◌*◌, ◌-◌, ◌<◌, ◌≤◌}
use Rattle.order.specs.Table.{filled}
use Rattle.model.specs.Plan.{Plan, block_count, upper}
use Rattle.model.specs.Refusal.{max_machines, max_capacity, max_blocks}
use Rattle.model.specs.Replication.{copy_limit as limit_of, share, largest_share, need, reachable, chosen}
use Rattle.theory.specs.Refusal.{Valid}
use Rattle.theory.specs.Widths.{most_replicas, popularity_bound, share_bound}
use Rattle.cluster.specs.declared.Cluster.{Cluster}
use Rattle.cluster.specs.Blocks.{popularity_in, spread_asked, most_in, link_in, profile_word, DemandInRange, DemandsFit, DemandsOf, profile_of, ProfilesFit}
use Rattle.needs.specs.declared.Extent.{Extent}
use Rattle.needs.specs.declared.Tally.{Tally}
use Rattle.needs.specs.Needs.{TallyOf}
use Rattle.replication.specs.declared.Bracket.{Bracket}

-- The numbers that the bisection starts from, with those of a plan.
pub record BracketAsked (e : Extent) (allowed blocks : ℕ) : Type 0 where
  pub low_narrow : e.low < share_bound
  pub high-narrow : e.high < share_bound
  pub popularity-max : e.popularity ≤ popularity_bound * max_blocks
  pub copies-max : e.copies ≤ allowed
  pub limit-max : allowed ≤ max_machines * max_capacity
  pub blocks-max : blocks ≤ max_blocks

-- Where the bisection stands: in range, and of plan p.
pub record BracketFits (b : Bracket) : Type 0 where
  pub high-narrow : b.high < share_bound
  pub over-max : b.over ≤ max_machines * max_capacity
  pub spare-max : b.spare ≤ max_machines * max_capacity
  pub turn_below : b.turn < 8

pub record BracketOf (p : Plan) (b : Bracket) : Type 0 where
  pub low-min : largest_share p (upper p) ≤ b.low
  pub unreached : (f : ℕ) → f < b.low → reachable p f ≡ false
  pub reached : reachable p b.high ≡ true

-- A probe of it.
pub record NarrowAsked (b : Bracket) (wanted : ℕ) (t : Tally) (allowed : ℕ) : Type 0 where
  pub fits : BracketFits b
  pub low-max : b.low ≤ wanted
  pub wanted-less : wanted < b.high
  pub next-above : wanted < t.next
  pub fewer-max : t.fewer ≤ most_replicas * max_blocks
  pub limit-max : allowed ≤ max_machines * max_capacity

-- What is left after it.
pub record NarrowedTo (b : Bracket) (wanted : ℕ) (t : Tally) (allowed : ℕ) (r : Bracket) : Type 0 where
  pub fits : BracketFits r
  pub less : r.high - r.low < b.high - b.low
  pub of : (p : Plan) → Valid p → allowed ≡ limit_of p → TallyOf p wanted t → BracketOf p b → BracketOf p r

-- The demands and the copies in all that plan p allows.
pub record LimitedDemands (p : Plan) (c : Cluster) (demands : List ℕ) (allowed : ℕ) : Type 0 where
  pub demands-of : DemandsOf p c demands
  pub limit_is : allowed ≡ limit_of p

-- The demands belong to some plan.
pub record ChooseAsked (c : Cluster) (demands : List ℕ) (allowed : ℕ) : Type 0 where
  pub fit : DemandsFit c demands
  pub plan : Plan
  pub limited : LimitedDemands plan c demands allowed

-- The needs at this figure are plan p's chosen counts.
pub record FigureOf (p : Plan) (f : ℕ) : Type 0 where
  pub reached : reachable p f ≡ true
  pub counts-are : (i : ℕ) → i < block_count p → need p f i ≡ chosen p i

-- A demand and a count that it allows; and the profile at that count.
pub record ProfileAsked (demand count : ℕ) : Type 0 where
  pub in-range : DemandInRange demand
  pub count-pos : 1 ≤ count
  pub count-max : count ≤ most_in demand

abbrev pub profile_at : ℕ → ℕ → ℕ
profile_at demand count = profile_word (share (popularity_in demand) count) count (spread_asked demand) (link_in demand)

-- The profiles of plan p's blocks at these counts, in their ranges, in the place of the demands; the later items stay. With the largest
-- share.
pub record FilledAs (p : Plan) (count : ℕ → ℕ) (c : Cluster) (demands profiles : List ℕ) (top : ℕ) : Type 0 where
  pub are : profiles ≡ filled (block_count p) (profile_of p count) demands
  pub fit : ProfilesFit c profiles
  pub top-is : top ≡ largest_share p count
