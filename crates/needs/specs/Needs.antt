-- What shares, needs and the passes over the blocks are given and say, in the model's terms.
use Rattle.std.specs.Prelude.{◌≡◌, Option, Some, None, List, ℕ, suc, ◌*◌, ◌-◌, ◌^◌, ◌<◌, ◌≤◌, get_or}
use Rattle.order.specs.Sum.{sum}
use Rattle.model.specs.Plan.{Plan, block_count, block_of, upper, min_total}
use Rattle.model.specs.Refusal.{max_blocks}
use Rattle.model.specs.Replication.{unit, share, largest_share, need}
use Rattle.theory.specs.Widths.{most_replicas, popularity_bound, share_bound}
use Rattle.cluster.specs.declared.Cluster.{Cluster}
use Rattle.cluster.specs.Blocks.{popularity_in, least_in, most_in, DemandInRange, DemandsFit}
use Rattle.needs.specs.declared.fractions.Fraction.{Fraction}
use Rattle.needs.specs.declared.NextShare.{NextShare}
use Rattle.needs.specs.declared.Extent.{Extent}
use Rattle.needs.specs.declared.Tally.{Tally}

-- The share that a fraction stands for.
abbrev pub fraction_share : Fraction → ℕ
fraction_share f = share f.popularity f.count

-- A next share as a number, above all shares where no block has one, and how many blocks have it.
abbrev pub next_share : Option NextShare → ℕ
next_share None = share_bound
next_share (Some next) = fraction_share next.share

abbrev pub next_blocks : Option NextShare → ℕ
next_blocks None = 0
next_blocks (Some next) = next.blocks

-- A next share, if there is one, and one block's share more that is not above it.
pub record NextShareAsked (next : Option NextShare) (share : Fraction) : Type 0 where
  pub share-narrow : fraction_share share < share_bound
  pub share-max : fraction_share share ≤ next_share next
  pub blocks-room : next_blocks next < max_blocks

-- A next share that some blocks have, with one block more: as it was where that one's share is above it, with one block more where it is
-- equal, and where it is below, that share and that block alone.
pub record Joined (next blocks share next' blocks' : ℕ) : Type 0 where
  pub kept : next < share → (next' ≡ next) × (blocks' ≡ blocks)
  pub tied : share ≡ next → (next' ≡ next) × (blocks' ≡ suc blocks)
  pub replaced : share < next → (next' ≡ share) × (blocks' ≡ 1)

abbrev pub NextAs : Option NextShare → Fraction → NextShare → Type 0
NextAs next share r = Joined (next_share next) (next_blocks next) (fraction_share share) (fraction_share r.share) r.blocks

-- Estimates are reckoned in parts of a copy.
abbrev pub parts : ℕ
parts = 2 ^ 48

-- A popularity times the scale is at most the copies, in parts, that keep its share within the figure; the next scale is too large.
pub record ScaleOf (wanted scale : ℕ) : Type 0 where
  pub scale-max : scale * suc wanted ≤ unit * parts
  pub scale-next : unit * parts < suc scale * suc wanted

-- One block's demand, and a figure within which it can have its share.
pub record NeedAsked (demand wanted scale : ℕ) : Type 0 where
  pub in-range : DemandInRange demand
  pub wanted-narrow : wanted < share_bound
  pub scale_of : ScaleOf wanted scale
  pub most-within : share (popularity_in demand) (most_in demand) ≤ wanted

-- r is the least lawful count whose share is within the figure.
pub record NeedOf (demand wanted r : ℕ) : Type 0 where
  pub low : least_in demand ≤ r
  pub high : r ≤ most_in demand
  pub within : share (popularity_in demand) r ≤ wanted
  pub less-above : least_in demand < r → wanted < share (popularity_in demand) (r - 1)

-- The demands, and a figure within which every block can have its share.
pub record FigureAsked (c : Cluster) (demands : List ℕ) (wanted : ℕ) : Type 0 where
  pub fit : DemandsFit c demands
  pub wanted-narrow : wanted < share_bound
  pub most-within : (i : ℕ) → i < c.blocks → share (popularity_in (get_or demands i 0)) (most_in (get_or demands i 0)) ≤ wanted

-- The needs at a figure: what holds of their numbers, and what they say of plan p.
pub record TallyFits (c : Cluster) (wanted : ℕ) (t : Tally) : Type 0 where
  pub total-max : t.total ≤ most_replicas * c.blocks
  pub fewer-max : t.fewer ≤ t.total
  pub next-above : wanted < t.next

pub record TallyOf (p : Plan) (wanted : ℕ) (t : Tally) : Type 0 where
  pub total-is : t.total ≡ sum (block_count p) (need p wanted)
  pub in-upper : (i : ℕ) → i < block_count p → need p wanted i ≤ upper p i
  pub same : (f : ℕ) → wanted ≤ f → f < t.next → (i : ℕ) → i < block_count p → need p f i ≡ need p wanted i
  pub fewer-is : t.fewer ≡ sum (block_count p) (need p t.next)

-- What the bisection starts from: its numbers, and what they are of plan p.
pub record ExtentFits (c : Cluster) (e : Extent) : Type 0 where
  pub low_narrow : e.low < share_bound
  pub high-narrow : e.high < share_bound
  pub popularity-max : e.popularity ≤ popularity_bound * c.blocks

pub record ExtentOf (p : Plan) (e : Extent) : Type 0 where
  pub low-is : e.low ≡ largest_share p (upper p)
  pub high_is : e.high ≡ largest_share p (λ i. (block_of p i).min_replicas)
  pub copies-is : e.copies ≡ min_total p
