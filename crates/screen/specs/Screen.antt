-- What is ruled out at a route of machines, on the blocks by rising share.
use Rattle.std.specs.Prelude.{◌≡◌, Bool, true, false, ℕ, ◌+◌, ◌<◌, ◌≤◌, ◌^◌}
use Rattle.model.specs.Refusal.{max_machines, max_blocks}
use Rattle.model.specs.Placement.{bit}
use Rattle.theory.specs.Widths.{load_bound}
use Rattle.cluster.specs.declared.Cluster.{Cluster}
use Rattle.cluster.specs.Cluster.{InRange}
use Rattle.index.specs.declared.Index.{Index}
use Rattle.index.specs.Index.{spot, share_at}
use Rattle.screen.specs.declared.Sweep.{Sweep}

-- The shares of the index rise.
abbrev pub SharesRise : Index → ℕ → Type 0
SharesRise index blocks = (r q : ℕ) → r ≤ q → q < blocks → share_at index r ≤ share_at index q

-- An index with the blocks by rising share, two of its machines, and what the first has more in load.
pub record ScreenAsked (c : Cluster) (index : Index) (m n margin : ℕ) : Type 0 where
  pub in-range : InRange c
  pub m-below : m < max_machines
  pub n-below : n < max_machines
  pub margin-narrow : margin < load_bound
  pub rising : SharesRise index c.blocks

-- The block at rank k is on the first machine alone.
pub record Alone (mine theirs : ℕ → ℕ) (k : ℕ) : Type 0 where
  pub holds : mine k ≡ 1
  pub lacks : theirs k ≡ 0

-- Machine m's blocks by rank.
abbrev pub ranked_on : Index → ℕ → ℕ → ℕ
ranked_on index m = spot index.by_rank m

-- No block on m alone has a share above 0 and below the margin.
abbrev pub NoMove : Cluster → Index → ℕ → ℕ → ℕ → Type 0
NoMove c index m n margin =
    (k : ℕ) → k < c.blocks → Alone (ranked_on index m) (ranked_on index n) k → 0 < share_at index k → margin ≤ share_at index k

-- No block on m alone has a share above that of one on n alone by less than the margin.
abbrev pub NoExchange : Cluster → Index → ℕ → ℕ → ℕ → Type 0
NoExchange c index m n margin =
    (k q : ℕ) → k < c.blocks → q < c.blocks → Alone (ranked_on index m) (ranked_on index n) k
    → Alone (ranked_on index n) (ranked_on index m) q → share_at index q < share_at index k
    → margin + share_at index q ≤ share_at index k

-- Nothing of the kind can pass: a move, or an exchange.
abbrev pub RuledOut : Cluster → Index → ℕ → ℕ → ℕ → Bool → Type 0
RuledOut c index m n margin false = NoMove c index m n margin
RuledOut c index m n margin true = NoExchange c index m n margin

-- What is known of n's own blocks below rank k for a block ahead with the share `ahead`: the largest share is `top`, it can be
-- returned for one below `reach`, and the next smaller one for one below `under`.
pub record Passed (mine theirs : ℕ → ℕ) (index : Index) (margin k ahead top reach under : ℕ) : Type 0 where
  pub risen : top ≤ ahead
  pub within : (q : ℕ) → q < k → Alone theirs mine q → share_at index q ≤ top
  pub near : (q : ℕ) → q < k → Alone theirs mine q → margin + share_at index q ≤ reach
  pub next : (q : ℕ) → q < k → Alone theirs mine q → share_at index q < top → margin + share_at index q ≤ under

-- No exchange among the ranks below k, and what the ranks from k on are held against.
pub record SweptBelow (mine theirs : ℕ → ℕ) (index : Index) (margin blocks k top reach under : ℕ) : Type 0 where
  pub passed : (x : ℕ) → k ≤ x → x < blocks → Passed mine theirs index margin k (share_at index x) top reach under
  pub barren : (x q : ℕ) → x < k → q < k → x < blocks → q < blocks → Alone mine theirs x → Alone theirs mine q
      → share_at index q < share_at index x → margin + share_at index q ≤ share_at index x

pub record SweepAsked (share margin : ℕ) : Type 0 where
  pub share-narrow : share < 2 ^ 54
  pub margin-narrow : margin < load_bound

-- Which of the two machines has the block at rank k.
abbrev pub Side : (mine theirs : ℕ → ℕ) → ℕ → Bool → Type 0
Side mine theirs k true = Alone mine theirs k
Side mine theirs k false = Alone theirs mine k

-- What the sweep knows with one block more, where that block is not to be exchanged.
abbrev pub BlockSwept : Sweep → Bool → ℕ → ℕ → Sweep → Type 0
BlockSwept s own share margin r =
    (mine theirs : ℕ → ℕ) (index : Index) (blocks k : ℕ) → SharesRise index blocks → share ≡ share_at index k → Side mine theirs k own
    → SweptBelow mine theirs index margin blocks k s.top s.reach s.under
    → SweptBelow mine theirs index margin blocks (k + 1) r.top r.reach r.under

pub record WordAsked (index : Index) (base margin : ℕ) : Type 0 where
  pub room : base + 64 ≤ max_blocks
  pub margin-narrow : margin < load_bound

-- The machines' bits at the 64 ranks from `base` on.
pub record Bits (mine theirs : ℕ → ℕ) (a b base : ℕ) : Type 0 where
  pub of-mine : (t : ℕ) → t < 64 → mine (base + t) ≡ bit a t
  pub of-theirs : (t : ℕ) → t < 64 → theirs (base + t) ≡ bit b t

-- What it knows with the blocks of a word more.
abbrev pub WordSwept : ℕ → ℕ → Index → ℕ → ℕ → Sweep → Sweep → Type 0
WordSwept a b index base margin s r =
    (mine theirs : ℕ → ℕ) (blocks : ℕ) → SharesRise index blocks → Bits mine theirs a b base
    → SweptBelow mine theirs index margin blocks base s.top s.reach s.under
    → SweptBelow mine theirs index margin blocks (base + 64) r.top r.reach r.under
