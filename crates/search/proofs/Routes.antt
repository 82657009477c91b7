-- Laws of a route of machines: where the loads, the capacity or the shares rule it out the definition finds nothing there.
-- Assumes nothing.
use mathlib.Core.Path.{◌≡◌, refl, ap, sym, ◌∙◌}
use mathlib.Core.Bool.{Bool, true, false}
use mathlib.Core.List.{List}
use Prim.Native.Nat.{ℕ, ◌-◌, ◌<◌, ◌≤◌}
use native.Mathlib.Nat.{div-add-mod', mul-le-mul_right}
use native.Mathlib.Omega.{arith}
use lib.ListN.{get_or}
use Rattle.std.proofs.Common.{Option}
use Rattle.order.proofs.Booleans.{not_so, no-contradiction}
use Rattle.model.specs.Plan.{Plan, machines, block_count}
use Rattle.model.specs.Refusal.{max_machines}
use Rattle.model.specs.Placement.{bit, held, used, share_of, load}
use Rattle.model.specs.Steps.{none, relocate, exchange, can_move, can_swap, Step, is_step}
use Rattle.theory.specs.Refusal.{Shaped}
use Rattle.theory.specs.Steps.{LocalMove, LocalSwap}
use Rattle.theory.proofs.StepsLocal.{can_move-local, can_swap-local}
use Rattle.cluster.specs.declared.Cluster.{Cluster}
use Rattle.cluster.specs.Cluster.{machines_in, InRange}
use Rattle.cluster.specs.Blocks.{PlacementFits, PlacementOf}
use Rattle.cluster.proofs.Laws.{cluster-size, cluster-capacity, cluster-blocks, placement-machine, placement-share}
use Rattle.loads.specs.Loads.{copy_sum, LoadsOf}
use Rattle.loads.proofs.Laws.{loads-narrow, copies-used, loads-load}
use Rattle.transfers.specs.declared.Route.{Route}
use Rattle.index.specs.declared.Index.{Index}
use Rattle.index.specs.Index.{rank_at, share_at, Indexed}
use Rattle.screen.specs.Screen.{ScreenAsked, Alone, ranked_on, RuledOut}
use Rattle.transfers.specs.declared.Hit.{Hit}
use Rattle.transfers.specs.declared.view.Scene.{Scene}
use Rattle.transfers.specs.Route.{hit_of, route_step, RouteIn, MarginOf, HitOf}
use Rattle.transfers.proofs.Searches.{none_found, test-none}
use Rattle.search.specs.declared.Row.{Row}
use Rattle.search.specs.Scene.{KindAsked, PartedOf, OpenAsked, OpenFound, kind_at, route_of, RouteAt, FoundIs}

-- ── route_step ───────────────────────────────────────────────────────────────────────────────────────────────────────────

-- no block, or no two blocks, can pass between m and n
abbrev pub Barren : Plan → List ℕ → Bool → ℕ → ℕ → Type 0
Barren p words false m n = (i : ℕ) → i < block_count p → LocalMove p words m n i → ⊥
Barren p words true m n = (i j : ℕ) → i < block_count p → j < block_count p → LocalSwap p words m n i j → ⊥

module _ (p : Plan) (count : ℕ → ℕ) (c : Cluster) (words profiles : List ℕ) (placement : PlacementOf p count c words profiles)
    (m n : ℕ) (ml : m < machines_in c) (nl : n < machines_in c) where
  shaped : Shaped p
  shaped = placement.profiles-of.cluster.valid.shaped

  m-in : m < machines p
  m-in = placement-machine p count c words profiles placement m ml

  n-in : n < machines p
  n-in = placement-machine p count c words profiles placement n nl

  pub route_step-none : (swapping across : Bool) → Barren p words swapping m n → none ≡ route_step p words swapping across m n
  unfolding route_step
  route_step-none false across barren =
      sym (test-none (block_count p) (can_move p words m n) (relocate across m n) (λ i l.
      not_so _ (λ t. barren i l ((can_move-local p shaped count words placement.feasible m n i m-in n-in l).0 t))))
  route_step-none true across barren =
      sym (none_found (block_count p) _ (λ i l.
      ap is_step (test-none (block_count p) (can_swap p words m n i) (exchange across m n i) (λ j h.
      not_so _ (λ t. barren i j l h ((can_swap-local p shaped count words placement.feasible m n i j m-in n-in l h).0 t))))))

-- ── OpenAsked: what the screen rules out, and the route that is handed on ───────────────────────────────────────────────

module _ {c : Cluster} {words profiles : List ℕ} {index : Index} {row : Row} {n margin : ℕ}
    (fits : PlacementFits c words profiles) (indexed : Indexed c words profiles index) (at : OpenAsked c row n margin) where
  pub range : InRange c
  range = fits.profiles-fit.in-range

  in-machines : (m : ℕ) → m < machines_in c → m < max_machines
  in-machines m l = omega (arith, range.machines-max)

  pub screen-asked : ScreenAsked c index row.m n margin
  screen-asked =
      record {
        in-range = range;
        m-below = in-machines row.m at.row_in.m-below;
        n-below = in-machines n at.n-below;
        margin-narrow = at.margin-narrow;
        rising = indexed.ordered.rising;
      }

  -- a block on one machine alone is so at its rank
  alone : (a b i : ℕ) → a < machines_in c → b < machines_in c → i < c.blocks → held words a i ≡ 1 → held words b i ≡ 0
      → Alone (ranked_on index a) (ranked_on index b) (rank_at index i)
  alone a b i al bl l on off =
      record {
        holds = indexed.by_rank a i (in-machines a al) l ∙ on;
        lacks = indexed.by_rank b i (in-machines b bl) l ∙ off;
      }

  module _ (p : Plan) (count : ℕ → ℕ) (placement : PlacementOf p count c words profiles) (margin-is : MarginOf p words row.m n margin) where
    below : (i : ℕ) → i < block_count p → i < c.blocks
    below i l = rw (cluster-blocks p c placement.profiles-of.cluster) l

    share-is : (i : ℕ) → i < c.blocks → share_at index (rank_at index i) ≡ share_of p words i
    share-is i l = indexed.ordered.rank-share i l ∙ placement-share p count c words profiles placement i l

    barren-ruled : (swapping : Bool) → RuledOut c index row.m n margin swapping → Barren p words swapping row.m n
    barren-ruled false ruled = λ i il s.
        let l = below i il in
        let lowers = (margin-is _ _).0 s.lowers in
        let far = ruled (rank_at index i) (indexed.ordered.rank_below i l)
        (alone row.m n i at.row_in.m-below at.n-below l s.on s.off)
        (rw (share-is i l) lowers.gain) in
        omega (arith, share-is i l, lowers.below)
    barren-ruled true ruled = λ i j il jl s.
        let l = below i il in
        let h = below j jl in
        let lowers = (margin-is _ _).0 s.lowers in
        let far = ruled (rank_at index i) (rank_at index j) (indexed.ordered.rank_below i l) (indexed.ordered.rank_below j h)
        (alone row.m n i at.row_in.m-below at.n-below l s.i-on s.i-off)
        (alone n row.m j at.n-below at.row_in.m-below h s.j-on s.j-off)
        (rw (share-is j h, share-is i l) lowers.gain) in
        omega (arith, share-is i l, share-is j h, lowers.below)

    pub route_step-ruled : (swapping across : Bool) → RuledOut c index row.m n margin swapping
        → none ≡ route_step p words swapping across row.m n
    route_step-ruled swapping across ruled =
        route_step-none p count c words profiles placement row.m n at.row_in.m-below at.n-below
        swapping across (barren-ruled swapping ruled)

  module _ (parted : Bool) (parted-is : PartedOf c row.low n parted) where
    -- the route as it is handed on
    abbrev route_here : Route
    route_here = record { parted = parted; m = row.m; n = n; margin = margin }

    pub route-in : RouteIn c route_here
    route-in =
        record {
          in-range = range;
          m-below = at.row_in.m-below;
          n-below = at.n-below;
          parted-is = parted-is row.m at.row_in.low-is;
          margin-narrow = at.margin-narrow;
        }

    pub route-found : (r : Option Hit)
        → HitOf c words profiles route_here row.swapping (λ across p. route_step p words row.swapping across row.m n) r
        → OpenFound c words profiles row n margin r
    route-found r found =
        record {
          sound = found.sound;
          is = λ p count placement margin-is room. found.is p count (record { placement = placement; margin-is = margin-is }) room;
        }

-- ── kind_at ──────────────────────────────────────────────────────────────────────────────────────────────────────────────

-- at a machine that is not of the row's kind the definition finds nothing
pub kind_at-other : (c : Cluster) (words profiles : List ℕ) (row : Row) (n : ℕ) → kind_at c row n ≡ false
    → (p : Plan) (count : ℕ → ℕ) → PlacementOf p count c words profiles
    → is_step (route_of p words row.swapping row.across row.m n) ≡ false
unfolding route_of
kind_at-other c words profiles row n e p count placement = rw (sym (cluster-size p c placement.profiles-of.cluster), e)

-- ── the route of a row's machine m and n ────────────────────────────────────────────────────────────────────────────────

module _ {scene : Scene} {row : Row} {n : ℕ} (at : RouteAt scene row n) where
  abbrev c : Cluster
  c = scene.held.cluster

  abbrev words : List ℕ
  words = scene.held.words.now

  abbrev profiles : List ℕ
  profiles = scene.held.profiles.now

  -- the loads in the index, and the copies that go with them
  abbrev loads : List ℕ
  loads = scene.index.now.loads

  abbrev copies : List ℕ
  copies = at.asked.all.copies

  of : LoadsOf c words profiles loads copies
  of = at.asked.all.loads-of

  m-max : row.m < max_machines
  m-max = omega (arith, at.asked.row_in.m-below, scene.held.fits.profiles-fit.in-range.machines-max)

  n-max : n < max_machines
  n-max = omega (arith, at.n-below, scene.held.fits.profiles-fit.in-range.machines-max)

  pub kind-asked : KindAsked row.low c.rack_size
  kind-asked =
      let ranges = scene.held.fits.profiles-fit.in-range in
      record {
        size-pos = ranges.size-pos;
        low-max = omega (arith, at.asked.row_in.low-is, div-add-mod' row.m c.rack_size, m-max);
        size-max = omega (arith, mul-le-mul_right c.rack_size ranges.racks-pos, ranges.machines-max);
      }

  -- whether the route is of the row's kind
  abbrev pub kind_here : Bool
  kind_here = kind_at c row n

  -- the row's search at n
  abbrev wanted : Plan → Step
  wanted p = route_of p words row.swapping row.across row.m n

  pub nothing-other : false ≡ kind_here → FoundIs c words profiles wanted none
  unfolding route_of
  nothing-other e =
      record { sound = tt; is = λ p count placement. rw (sym (cluster-size p c placement.profiles-of.cluster), sym e) }

  module _ (kind : true ≡ kind_here) where
    this : (p : Plan) (count : ℕ → ℕ) → PlacementOf p count c words profiles
        → route_step p words row.swapping row.across row.m n ≡ wanted p
    unfolding route_of
    this p count placement = rw (sym (cluster-size p c placement.profiles-of.cluster), sym kind)

    nothing-barren : ((p : Plan) (count : ℕ → ℕ) → PlacementOf p count c words profiles → Barren p words row.swapping row.m n)
        → FoundIs c words profiles wanted none
    nothing-barren barren =
        record {
          sound = tt;
          is = λ p count placement.
              route_step-none p count c words profiles placement row.m n at.asked.row_in.m-below at.n-below
              row.swapping row.across (barren p count placement)
              ∙ this p count placement;
        }

    module _ (p : Plan) (count : ℕ → ℕ) (placement : PlacementOf p count c words profiles) where
      load_of : (k : ℕ) → k < machines_in c → get_or loads k 0 ≡ load p words k
      load_of k l =
          loads-load c words profiles loads copies of p count placement k l

      n-used : copy_sum c words n ≡ used p words n
      n-used =
          sym (of.copies-are n n-max)
          ∙ copies-used c words profiles loads copies of p placement.profiles-of.cluster n at.n-below

    -- nothing leaves a machine that has no more load
    level-barren : get_or loads row.m 0 ≤ get_or loads n 0 → FoundIs c words profiles wanted none
    level-barren l = nothing-barren (λ p count placement. go p (load_of p count placement row.m at.asked.row_in.m-below) (load_of p count placement n at.n-below) row.swapping)
      where
        go : (p : Plan) → get_or loads row.m 0 ≡ load p words row.m → get_or loads n 0 ≡ load p words n
            → (swapping : Bool) → Barren p words swapping row.m n
        go p d e false = λ i h s. omega (arith, s.lowers)
        go p d e true = λ i j h k s. omega (arith, s.lowers)

    -- and nothing moves to a full one
    pub nothing-full : bit row.targets n ≡ 0 → FoundIs c words profiles wanted none
    nothing-full off = nothing-barren (λ p count placement. go p (n-used p count placement) (cluster-capacity p c placement.profiles-of.cluster) row.swapping (at.asked.targets-are n at.n-below).1)
      where
        go : (p : Plan) → copy_sum c words n ≡ used p words n → c.capacity ≡ p.capacity → (swapping : Bool)
            → ((swapping ≡ false → copy_sum c words n < c.capacity) → bit row.targets n ≡ 1) → Barren p words swapping row.m n
        go p d e false on = λ i h s. omega (arith, on (λ x. omega (arith, s.room)))
        go p d e true on = λ i j h k s. omega (arith, on (λ x. no-contradiction x))

    module _ (more : get_or loads n 0 < get_or loads row.m 0) where
      -- what m has more than n is the margin
      abbrev margin_here : ℕ
      margin_here = get_or loads row.m 0 - get_or loads n 0

      pub open-asked : OpenAsked c row n margin_here
      open-asked =
          record {
            row_in = at.asked.row_in;
            n-below = at.n-below;
            margin-narrow = omega (arith, loads-narrow c words profiles loads copies of scene.held.fits.profiles-fit row.m m-max);
          }

      margin-is : (p : Plan) (count : ℕ → ℕ) → PlacementOf p count c words profiles → MarginOf p words row.m n margin_here
      margin-is p count placement given back =
          let d = load_of p count placement row.m at.asked.row_in.m-below in
          let e = load_of p count placement n at.n-below in (
            λ h. record { gain = h.0; below = omega (arith, h.1) },
            λ h. (h.gain, omega (arith, h.below)),
          )

      pub open-found : (r : Option Hit) → bit row.targets n ≡ 1 → OpenFound c words profiles row n margin_here r
          → FoundIs c words profiles wanted (hit_of row.across r)
      open-found r on found =
          record {
            sound = found.sound row.across;
            is = λ p count placement.
                found.is p count placement (margin-is p count placement)
                (λ moving. omega (arith, (at.asked.targets-are n at.n-below).0 on moving, n-used p count placement, cluster-capacity p c placement.profiles-of.cluster))
                row.across
                ∙ this p count placement;
          }

  -- whatever the kind of the route
  pub nothing-level : get_or loads row.m 0 ≤ get_or loads n 0 → FoundIs c words profiles wanted none
  nothing-level l = go kind_here refl
    where
      go : (kind : Bool) → kind ≡ kind_here → FoundIs c words profiles wanted none
      go true e = level-barren e l
      go false e = nothing-other e
