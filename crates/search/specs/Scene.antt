-- What the search is given, and that it finds the definition's next step.
use Rattle.std.specs.Prelude.{◌≡◌, Bool, true, false, not, cond, List, ◌↔◌, ℕ, ◌*◌, ◌/◌, ◌<◌, ◌≤◌, eqb, Option, Some, None}
use Rattle.std.specs.Bool.{beq}
use Rattle.model.specs.Plan.{Plan, machines}
use Rattle.model.specs.Refusal.{max_machines}
use Rattle.model.specs.Placement.{bit}
use Rattle.theory.specs.Widths.{load_bound}
use Rattle.model.specs.Steps.{Step as ModelStep, none, relocate, exchange, across_racks, first, next_step}
use Rattle.cluster.specs.declared.Cluster.{Cluster}
use Rattle.cluster.specs.Cluster.{machines_in, domain_in, InRange}
use Rattle.cluster.specs.Blocks.{PlacementOf}
use Rattle.loads.specs.Loads.{copy_sum, LoadsOf}
use Rattle.transfers.specs.declared.Hit.{Hit}
use Rattle.transfers.specs.declared.view.Scene.{Scene}
use Rattle.transfers.specs.Route.{hit_of, route_step, StepFound, MarginOf, HasRoom}
use Rattle.search.specs.declared.Step.{Step}
use Rattle.search.specs.declared.Step.TheVariants.{Move, Swap, RackMove, RackSwap}
use Rattle.search.specs.declared.Kind.{Kind}
use Rattle.search.specs.declared.Kind.TheVariants.{Move as KindMove, Swap as KindSwap, RackMove as KindRackMove, RackSwap as KindRackSwap}
use Rattle.search.specs.declared.Row.{Row}

-- The answer as the model's step.
unfoldable pub step_of : Option Step → ModelStep
step_of None = none
step_of (Some (Move m n i)) = relocate false m n i
step_of (Some (Swap m n i j)) = exchange false m n i j
step_of (Some (RackMove m n i)) = relocate true m n i
step_of (Some (RackSwap m n i j)) = exchange true m n i j

-- Whether n is of the kind: `low` is the first machine of m's rack.
pub record KindAsked (low size : ℕ) : Type 0 where
  pub size-pos : 1 ≤ size
  pub low-max : low < max_machines
  pub size-max : size ≤ max_machines

abbrev pub OfKind : ℕ → ℕ → ℕ → Bool → Bool → Type 0
OfKind low size n across r =
    (m : ℕ) → low ≡ m / size * size → r ≡ beq across (not (eqb (m / size) (n / size)))

-- Whether n lies in another failure domain than m: `low` is the first machine of m's rack.
abbrev pub PartedOf : Cluster → ℕ → ℕ → Bool → Type 0
PartedOf c low n r = (m : ℕ) → low ≡ m / c.rack_size * c.rack_size → r ≡ not (eqb (domain_in c m) (domain_in c n))

-- Whether a kind's steps are exchanges, and whether they go across racks.
abbrev pub is_exchange : Kind → Bool
is_exchange KindMove = false
is_exchange KindSwap = true
is_exchange KindRackMove = false
is_exchange KindRackSwap = true

abbrev pub is_across : Kind → Bool
is_across KindMove = false
is_across KindSwap = false
is_across KindRackMove = true
is_across KindRackSwap = true

-- The definition's search of one kind, from the inside out: at the route (m, n), over all n, over all m and n.
unfoldable pub route_of : Plan → List ℕ → Bool → Bool → ℕ → ℕ → ModelStep
route_of p words swapping across m n = cond (beq across (across_racks p m n)) (route_step p words swapping across m n) none

unfoldable pub row_of : Plan → List ℕ → Bool → Bool → ℕ → ModelStep
row_of p words swapping across m = first (machines p) (route_of p words swapping across m)

unfoldable pub kind_step : Plan → List ℕ → Bool → Bool → ModelStep
kind_step p words swapping across = first (machines p) (row_of p words swapping across)

-- A scene in whose index the loads of its placement stand.
pub record SearchAsked (scene : Scene) : Type 0 where
  pub copies : List ℕ
  pub loads-of : LoadsOf scene.held.cluster scene.held.words.now scene.held.profiles.now scene.index.now.loads copies

-- With the copies on each machine.
pub record FindAsked (scene : Scene) (copies : List ℕ) : Type 0 where
  pub all : SearchAsked scene
  pub copies-are : copies ≡ all.copies

-- The machines that an exchange may lead to are all, and a move those with room.
abbrev pub TargetsOf : Cluster → List ℕ → Bool → ℕ → Type 0
TargetsOf c words swapping targets =
    (n : ℕ) → n < machines_in c → (bit targets n ≡ 1) ↔ (swapping ≡ false → copy_sum c words n < c.capacity)

pub record KindSearchAsked (scene : Scene) (kind : Kind) (targets : ℕ) : Type 0 where
  pub all : SearchAsked scene
  pub targets-are : TargetsOf scene.held.cluster scene.held.words.now (is_exchange kind) targets

-- A machine of the cluster, and where its rack starts.
pub record RowIn (c : Cluster) (row : Row) : Type 0 where
  pub m-below : row.m < machines_in c
  pub low-is : row.low ≡ row.m / c.rack_size * c.rack_size

-- Whether machine n is of the row's kind: in m's rack, or in another one.
abbrev pub kind_at : Cluster → Row → ℕ → Bool
kind_at c row n = beq row.across (not (eqb (row.m / c.rack_size) (n / c.rack_size)))

-- The machines of the row's kind lie from r on, and before r.
abbrev pub StartsAt : Row → ℕ → Type 0
StartsAt row r =
    (c : Cluster) → InRange c → RowIn c row → (r ≤ machines_in c) × ((n : ℕ) → n < r → kind_at c row n ≡ false)

pub record EndsAt (c : Cluster) (row : Row) (r : ℕ) : Type 0 where
  pub within : r ≤ machines_in c
  pub past : (n : ℕ) → r ≤ n → n < machines_in c → kind_at c row n ≡ false

pub record RowAsked (scene : Scene) (row : Row) : Type 0 where
  pub all : SearchAsked scene
  pub row_in : RowIn scene.held.cluster row
  pub targets-are : TargetsOf scene.held.cluster scene.held.words.now row.swapping row.targets

pub record RouteAt (scene : Scene) (row : Row) (n : ℕ) : Type 0 where
  pub asked : RowAsked scene row
  pub n-below : n < machines_in scene.held.cluster

-- The row's machine and n, and what it has more in load.
pub record OpenAsked (c : Cluster) (row : Row) (n margin : ℕ) : Type 0 where
  pub row_in : RowIn c row
  pub n-below : n < machines_in c
  pub margin-narrow : margin < load_bound

-- What is found between them is what the definition's search finds.
pub record OpenFound (c : Cluster) (words profiles : List ℕ) (row : Row) (n margin : ℕ) (r : Option Hit) : Type 0 where
  pub sound : (across : Bool) → StepFound c words (hit_of across r)
  pub is : (p : Plan) (count : ℕ → ℕ) → PlacementOf p count c words profiles → MarginOf p words row.m n margin
      → HasRoom p words row.swapping n → (across : Bool) → hit_of across r ≡ route_step p words row.swapping across row.m n

-- What a loop finds is what the definition's search finds.
pub record FoundIs (c : Cluster) (words profiles : List ℕ) (wanted : Plan → ModelStep) (s : ModelStep) : Type 0 where
  pub sound : StepFound c words s
  pub is : (p : Plan) (count : ℕ → ℕ) → PlacementOf p count c words profiles → s ≡ wanted p

-- And that is the next step of the definition.
abbrev pub NextFound : Cluster → List ℕ → List ℕ → Option Step → Type 0
NextFound c words profiles r = FoundIs c words profiles (λ p. next_step p words) (step_of r)
