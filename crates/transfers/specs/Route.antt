-- What is found at one route of machines, in the model's terms.
use Rattle.std.specs.Prelude.{◌≡◌, Bool, true, false, not, cond, List, ◌↔◌, ℕ, ◌+◌, ◌<◌, ◌≤◌, eqb, get_or, Option, Some, None}
use Rattle.model.specs.Plan.{Plan, block_count}
use Rattle.model.specs.Placement.{bit, word_of, held, domains_used, used}
use Rattle.model.specs.Steps.{Step, none, relocate, exchange, shifted, can_move, can_swap, first}
use Rattle.theory.specs.Widths.{share_bound, load_bound}
use Rattle.theory.specs.Steps.{Lowers}
use Rattle.cluster.specs.declared.Cluster.{Cluster}
use Rattle.cluster.specs.Cluster.{machines_in, domain_in, InRange, ClusterOf}
use Rattle.cluster.specs.Blocks.{linked_to, share_in, spread_in, PlacementOf}
use Rattle.transfers.specs.declared.Route.{Route}
use Rattle.index.specs.declared.Index.{Index}
use Rattle.index.specs.Index.{spot, share_at}
use Rattle.transfers.specs.declared.Hit.{Hit}
use Rattle.transfers.specs.declared.Hit.TheVariants.{Move, Swap}

-- A find as a step; `across` says whether its machines lie in different racks.
unfoldable pub hit_of : Bool → Option Hit → Step
hit_of across None = none
hit_of across (Some (Move m n i)) = relocate across m n i
hit_of across (Some (Swap m n i j)) = exchange across m n i j

-- The definition's first move or exchange between m and n.
unfoldable pub route_step : Plan → List ℕ → Bool → Bool → ℕ → ℕ → Step
route_step p words false across m n = first (block_count p) (λ i. cond (can_move p words m n i) (relocate across m n i) none)
route_step p words true across m n =
    first (block_count p) (λ i. first (block_count p) (λ j. cond (can_swap p words m n i j) (exchange across m n i j) none))

-- The same at block i alone.
unfoldable pub block_step : Plan → List ℕ → Bool → Bool → ℕ → ℕ → ℕ → Step
block_step p words false across m n i = cond (can_move p words m n i) (relocate across m n i) none
block_step p words true across m n i = first (block_count p) (λ j. cond (can_swap p words m n i j) (exchange across m n i j) none)

-- A copy of the block that is on m and could be on n.
pub record Shift (c : Cluster) (words : List ℕ) (m n i : ℕ) : Type 0 where
  pub m-below : m < machines_in c
  pub n-below : n < machines_in c
  pub i-below : i < c.blocks
  pub holds : held words m i ≡ 1
  pub lacks : held words n i ≡ 0

-- What a find names can be carried out.
abbrev pub StepFound : Cluster → List ℕ → Step → Type 0
StepFound c words none = Unit
StepFound c words (relocate across m n i) = Shift c words m n i
StepFound c words (exchange across m n i j) = Shift c words m n i × Shift c words n m j

-- Two machines of the cluster, and whether they lie in different failure domains.
pub record RouteIn (c : Cluster) (route : Route) : Type 0 where
  pub in-range : InRange c
  pub m-below : route.m < machines_in c
  pub n-below : route.n < machines_in c
  pub parted-is : route.parted ≡ not (eqb (domain_in c route.m) (domain_in c route.n))
  pub margin-narrow : route.margin < load_bound

-- What is asked about a block that is on m and not on n.
pub record BlockAsked (c : Cluster) (route : Route) (word profile : ℕ) : Type 0 where
  pub route-in : RouteIn c route
  pub holds : bit word route.m ≡ 1
  pub lacks : bit word route.n ≡ 0
  pub share-narrow : share_in profile < share_bound

-- A plan of this cluster, in which the block lies in as many domains as its spread.
pub record Lies (p : Plan) (c : Cluster) (word spread : ℕ) : Type 0 where
  pub cluster-of : ClusterOf p c
  pub enough : spread ≤ domains_used p word

-- Once its copy on m is on n it still does.
abbrev pub KeepsOf : Cluster → Route → ℕ → ℕ → Bool → Type 0
KeepsOf c route word spread r =
    (p : Plan) → Lies p c word spread → (r ≡ true) ↔ (spread ≤ domains_used p (shifted word route.m route.n))

-- What may be given for what comes back, told by the margin.
pub record InMargin (margin given back : ℕ) : Type 0 where
  pub gain : back < given
  pub below : given < margin + back

-- A block's test: its copy on m can go to n where the share `given` goes and the share `back` comes.
pub record Passable (p : Plan) (route : Route) (word spread given back : ℕ) : Type 0 where
  pub in-margin : InMargin route.margin given back
  pub spread-kept : spread ≤ domains_used p (shifted word route.m route.n)

abbrev pub PassableOf : Cluster → Route → ℕ → ℕ → ℕ → ℕ → Bool → Type 0
PassableOf c route word spread given back r =
    (p : Plan) → Lies p c word spread → (r ≡ true) ↔ Passable p route word spread given back

-- The block that block i is linked to, its partner or i itself where it has none, is not on n.
abbrev pub Free : List ℕ → List ℕ → ℕ → ℕ → Type 0
Free words profiles i n = held words n (linked_to (get_or profiles i 0) i) ≡ 0

pub record FreeAsked (c : Cluster) (i n : ℕ) : Type 0 where
  pub i-below : i < c.blocks
  pub n-below : n < machines_in c

abbrev pub FreeOf : List ℕ → List ℕ → ℕ → ℕ → Bool → Type 0
FreeOf words profiles i n r = (r ≡ true) ↔ Free words profiles i n

-- The margin says which transfers lower m's load and keep n's below it.
abbrev pub MarginOf : Plan → List ℕ → ℕ → ℕ → ℕ → Type 0
MarginOf p words m n margin = (given back : ℕ) → Lowers p words m n given back ↔ InMargin margin given back

-- The plan and placement that the numbers are of, with the route's margin.
pub record RouteScene (p : Plan) (count : ℕ → ℕ) (c : Cluster) (words profiles : List ℕ) (route : Route) : Type 0 where
  pub placement : PlacementOf p count c words profiles
  pub margin-is : MarginOf p words route.m route.n route.margin

-- No block of m's that n lacks, at whatever rank, has a share that may come back for the share `given`.
abbrev pub NoReturn : Cluster → Index → Route → ℕ → Type 0
NoReturn c index route given =
    (r : ℕ) → r < c.blocks → spot index.by_rank route.m r ≡ 1 → spot index.by_rank route.n r ≡ 0
    → InMargin route.margin given (share_at index r) → ⊥

-- A block that is on m and not on n.
pub record CandidateAsked (c : Cluster) (words : List ℕ) (route : Route) (i : ℕ) : Type 0 where
  pub route-in : RouteIn c route
  pub i-below : i < c.blocks
  pub holds : held words route.m i ≡ 1
  pub lacks : held words route.n i ≡ 0

-- Such a block comes back for one of the share `given`, wherever its partner is.
pub record Return (p : Plan) (words profiles : List ℕ) (route : Route) (given j : ℕ) : Type 0 where
  pub holds : held words route.m j ≡ 1
  pub lacks : held words route.n j ≡ 0
  pub test : Passable p route (word_of words j) (spread_in (get_or profiles j 0)) given (share_in (get_or profiles j 0))

-- The same where its partner is not on n.
pub record FreeReturn (p : Plan) (words profiles : List ℕ) (route : Route) (given j : ℕ) : Type 0 where
  pub back : Return p words profiles route given j
  pub free : Free words profiles j route.n

abbrev pub ReturnOf : Cluster → List ℕ → List ℕ → Route → ℕ → ℕ → Bool → Type 0
ReturnOf c words profiles route given j r =
    (p : Plan) (count : ℕ → ℕ) → PlacementOf p count c words profiles → (r ≡ true) ↔ FreeReturn p words profiles route given j

-- No block before `to` does.
abbrev pub NoneReturns : Cluster → List ℕ → List ℕ → Route → ℕ → ℕ → Type 0
NoneReturns c words profiles route given to =
    (k : ℕ) → k < to → (p : Plan) (count : ℕ → ℕ) → PlacementOf p count c words profiles → FreeReturn p words profiles route given k → ⊥

-- r is the first that does, seen from the route the other way round.
pub record ReturnAt (c : Cluster) (words profiles : List ℕ) (route : Route) (given r : ℕ) : Type 0 where
  pub below : r < c.blocks
  pub holds : held words route.m r ≡ 1
  pub lacks : held words route.n r ≡ 0
  pub passed : NoneReturns c words profiles route given r
  pub found : (p : Plan) (count : ℕ → ℕ) → PlacementOf p count c words profiles → FreeReturn p words profiles route given r

-- The first such block, or none.
abbrev pub ReturnFound : Cluster → List ℕ → List ℕ → Route → ℕ → Option ℕ → Type 0
ReturnFound c words profiles route given (Some r) = ReturnAt c words profiles route given r
ReturnFound c words profiles route given None = NoneReturns c words profiles route given c.blocks

-- A block i whose partner is on m.
pub record OwnAsked (c : Cluster) (words profiles : List ℕ) (route : Route) (i : ℕ) : Type 0 where
  pub route-in : RouteIn c route
  pub i-below : i < c.blocks
  pub holds : held words route.m (linked_to (get_or profiles i 0) i) ≡ 1

-- r is its partner, which can come back, seen from the route the other way round.
pub record OwnAt (c : Cluster) (words profiles : List ℕ) (route : Route) (given i r : ℕ) : Type 0 where
  pub below : r < c.blocks
  pub is : r ≡ linked_to (get_or profiles i 0) i
  pub lacks : held words route.n r ≡ 0
  pub found : (p : Plan) (count : ℕ → ℕ) → PlacementOf p count c words profiles → Return p words profiles route given r

-- Its partner, or none where that cannot come back.
abbrev pub OwnFound : Cluster → List ℕ → List ℕ → Route → ℕ → ℕ → Option ℕ → Type 0
OwnFound c words profiles route given i (Some r) = OwnAt c words profiles route given i r
OwnFound c words profiles route given i None =
    (p : Plan) (count : ℕ → ℕ) → PlacementOf p count c words profiles
    → Return p words profiles route given (linked_to (get_or profiles i 0) i) → ⊥

-- Block i can be exchanged for no block before `to`.
abbrev pub NoneExchanged : Cluster → List ℕ → List ℕ → Route → ℕ → ℕ → Type 0
NoneExchanged c words profiles route i to =
    (k : ℕ) → k < to → (p : Plan) (count : ℕ → ℕ) → RouteScene p count c words profiles route
    → can_swap p words route.m route.n i k ≡ false

-- r is the first block that it can be exchanged for.
pub record ExchangeAt (c : Cluster) (words profiles : List ℕ) (route : Route) (i r : ℕ) : Type 0 where
  pub below : r < c.blocks
  pub holds : held words route.n r ≡ 1
  pub lacks : held words route.m r ≡ 0
  pub passed : NoneExchanged c words profiles route i r
  pub found : (p : Plan) (count : ℕ → ℕ) → RouteScene p count c words profiles route → can_swap p words route.m route.n i r ≡ true

-- The first such block, or none.
abbrev pub ExchangeFound : Cluster → List ℕ → List ℕ → Route → ℕ → Option ℕ → Type 0
ExchangeFound c words profiles route i (Some r) = ExchangeAt c words profiles route i r
ExchangeFound c words profiles route i None = NoneExchanged c words profiles route i c.blocks

-- Where the kind is a move, n has room.
abbrev pub HasRoom : Plan → List ℕ → Bool → ℕ → Type 0
HasRoom p words swapping n = swapping ≡ false → used p words n < p.capacity

-- What is found is what the definition's search finds, whichever kinds the step is of.
pub record HitOf (c : Cluster) (words profiles : List ℕ) (route : Route) (swapping : Bool) (wanted : Bool → Plan → Step) (r : Option Hit) : Type 0 where
  pub sound : (across : Bool) → StepFound c words (hit_of across r)
  pub is : (p : Plan) (count : ℕ → ℕ) → RouteScene p count c words profiles route → HasRoom p words swapping route.n
      → (across : Bool) → hit_of across r ≡ wanted across p
