-- Laws of one route of machines: when a spread is kept, which blocks are candidates, and what passes the definition's tests there.
-- Assumes nothing.
use mathlib.Core.Path.{◌≡◌, refl, ap, sym, ◌∙◌}
use mathlib.Core.Bool.{Bool, true, false, not}
use mathlib.Core.List.{List}
use mathlib.Core.Logic.{inl, inr, ◌↔◌}
use Prim.Native.Nat.{ℕ, ◌+◌, ◌<◌, ◌≤◌}
use native.Mathlib.Decide.{ℕ_discrete, dec_lt}
use native.Mathlib.Omega.{arith}
use borrow.Author.Count.{below_more}
use borrow.Author.Tests.{not-false, eqb-true, eq-eqb, ne_eqb}
use lib.Dec.{eqb}
use lib.ListN.{get_or}
use Rattle.order.proofs.Booleans.{bool_cases, not_so}
use Rattle.model.specs.Plan.{Plan, machines, block_count, block_of, is_paired, partner}
use Rattle.model.specs.Placement.{word_of, held, domains_used, used, share_of}
use Rattle.model.specs.Steps.{Step, none, relocate, exchange, shifted, is_step, first, can_move, can_swap}
use Rattle.theory.specs.Steps.{Lowers, LocalMove}
use Rattle.theory.specs.Refusal.{Shaped}
use Rattle.theory.proofs.Plan.{partner-paired, partner-partner}
use Rattle.theory.proofs.Steps.{domains_used-shift-inside, domains_used-shift-pos}
use Rattle.theory.proofs.StepsLocal.{can_move-local, can_swap-local}
use Rattle.cluster.specs.declared.Cluster.{Cluster}
use Rattle.cluster.specs.Cluster.{machines_in, domain_in}
use Rattle.cluster.specs.Blocks.{linked_to, share_in, spread_in, PlacementFits, PlacementOf}
use Rattle.cluster.proofs.Laws.{cluster-blocks, cluster-domain, cluster-machines, mate-paired, mate-single, profiles-mate, placement-block, placement-share, placement-spread, placement-machine}
use Rattle.transfers.specs.declared.Route.{Route}
use Rattle.index.specs.declared.Index.{Index}
use Rattle.index.specs.Index.{spot, rank_at, Indexed, NextAsked, NoneFree, NextAt}
use Rattle.transfers.specs.Route.{block_step, route_step, Shift, RouteIn, BlockAsked, Lies, InMargin, Passable, Free, NoReturn, RouteScene, Return, FreeReturn, CandidateAsked}
use Rattle.transfers.proofs.Searches.{step-found, none_found, test-found, test-none}

-- ── BlockAsked: when a spread is kept ──────────────────────────────────────────────────────────────────────────────────

module _ (p : Plan) (c : Cluster) (route : Route) (word profile : ℕ)
    (lies : Lies p c word (spread_in profile)) (asked : BlockAsked c route word profile) where
  m-lt : route.m < machines p
  m-lt = rw (cluster-machines p c lies.cluster-of) at asked.route-in.m-below

  n-lt : route.n < machines p
  n-lt = rw (cluster-machines p c lies.cluster-of) at asked.route-in.n-below

  -- inside a domain, and with a spread of one, nothing can be lost
  pub kept-inside : route.parted ≡ false → spread_in profile ≤ domains_used p (shifted word route.m route.n)
  kept-inside inside =
      let same : domain_in c route.m ≡ domain_in c route.n = eqb-true _ _ (not-false _ (sym asked.route-in.parted-is ∙ inside)) in
      let of = lies.cluster-of in
      rw (domains_used-shift-inside p word route.m route.n m-lt n-lt asked.holds asked.lacks (sym (cluster-domain p c of route.m) ∙ same ∙ cluster-domain p c of route.n))
      lies.enough

  pub kept-one : spread_in profile ≤ 1 → spread_in profile ≤ domains_used p (shifted word route.m route.n)
  kept-one low =
      omega (arith, domains_used-shift-pos p word route.m route.n m-lt n-lt asked.holds asked.lacks lies.cluster-of.valid.shaped)

-- ── PlacementFits: the block that a block is linked to ─────────────────────────────────────────────────────────────────

pub linked-below : {c : Cluster} {words profiles : List ℕ} → PlacementFits c words profiles
    → (i : ℕ) → i < c.blocks → linked_to (get_or profiles i 0) i < c.blocks
linked-below fits i l = let linked = fits.profiles-fit.linked i l in omega (arith, linked.some, linked.below)

-- ── Scene: the candidates, one after the other ──────────────────────────────────────────────────────────────────────────

-- The search has come to block i: every block before it fails.
pub record Passed (c : Cluster) (Fails : ℕ → Type 0) (i : ℕ) : Type 0 where
  pub within : i ≤ c.blocks
  pub before : (k : ℕ) → k < i → Fails k

pub passed_first : {c : Cluster} {Fails : ℕ → Type 0} → Passed c Fails 0
passed_first = record { within = omega arith; before = λ k l. absurd (omega arith) }

-- what the index is asked
pub next-asked : {c : Cluster} {route : Route} {i : ℕ} → RouteIn c route → i ≤ c.blocks → NextAsked route.m route.n i c
next-asked route-in l =
    record {
      m-below = omega (arith, route-in.m-below, route-in.in-range.machines-max);
      n-below = omega (arith, route-in.n-below, route-in.in-range.machines-max);
      from-max = omega (arith, route-in.in-range.blocks-max);
      blocks-max = route-in.in-range.blocks-max;
    }

module _ {c : Cluster} {words profiles : List ℕ} {index : Index} {route : Route}
    (indexed : Indexed c words profiles index) (route-in : RouteIn c route) where
  in-index : (k i : ℕ) → k < machines_in c → i < c.blocks → spot index.by_number k i ≡ held words k i
  in-index k i l b = indexed.by_number k i (omega (arith, route-in.in-range.machines-max)) b

  -- the next candidate
  pub next-candidate : {i r : ℕ} → NextAt index.by_number route.m route.n i c r → CandidateAsked c words route r
  next-candidate {i} {r} next =
      record {
        route-in = route-in;
        i-below = next.below;
        holds = sym (in-index route.m r route-in.m-below next.below) ∙ next.holds;
        lacks = sym (in-index route.n r route-in.n-below next.below) ∙ next.lacks;
      }

  -- a block that is no candidate fails
  module _ {Fails : ℕ → Type 0} (others : (k : ℕ) → k < c.blocks → (held words route.m k ≡ 1 → held words route.n k ≡ 0 → ⊥) → Fails k)
      {i : ℕ} (passed : Passed c Fails i) where
    passed-free : (to : ℕ) → to ≤ c.blocks → NoneFree index.by_number route.m route.n i to → (k : ℕ) → k < to → Fails k
    passed-free to within clear k l = elim (dec_lt k i) [
      | yes h ↦ passed.before k h
      | no h ↦
          let b : k < c.blocks = omega arith in
          others k b (λ holds lacks. clear k (omega arith) l
          (in-index route.m k route-in.m-below b ∙ holds) (in-index route.n k route-in.n-below b ∙ lacks))
    ]

    pub passed-all : NoneFree index.by_number route.m route.n i c.blocks → (k : ℕ) → k < c.blocks → Fails k
    passed-all clear = passed-free c.blocks (omega arith) clear

    module _ {r : ℕ} (next : NextAt index.by_number route.m route.n i c r) where
      pub passed-before : (k : ℕ) → k < r → Fails k
      passed-before = passed-free r (omega (arith, next.below)) next.passed

      pub passed-next : Fails r → Passed c Fails (r + 1)
      passed-next here = record { within = omega (arith, next.below); before = below_more _ r passed-before here }

-- a candidate's word and profile
pub candidate-block : {c : Cluster} {words profiles : List ℕ} {route : Route} {i : ℕ} → PlacementFits c words profiles
    → CandidateAsked c words route i → BlockAsked c route (word_of words i) (get_or profiles i 0)
candidate-block {i} fits candidate =
    record {
      route-in = candidate.route-in;
      holds = candidate.holds;
      lacks = candidate.lacks;
      share-narrow = fits.profiles-fit.narrow i candidate.i-below;
    }

pub candidate-shift : {c : Cluster} {words : List ℕ} {route : Route} {i : ℕ}
    → CandidateAsked c words route i → Shift c words route.m route.n i
candidate-shift candidate =
    record {
      m-below = candidate.route-in.m-below;
      n-below = candidate.route-in.n-below;
      i-below = candidate.i-below;
      holds = candidate.holds;
      lacks = candidate.lacks;
    }

-- ── NoReturn: what the shares rule out ─────────────────────────────────────────────────────────────────────────────────

pub no_return-block : (p : Plan) {c : Cluster} {words profiles : List ℕ} {index : Index} {route : Route} {given : ℕ}
    → Indexed c words profiles index → RouteIn c route → NoReturn c index route given
    → (k : ℕ) → k < c.blocks → Return p words profiles route given k → ⊥
no_return-block p {index} {route} indexed route-in ruled k l t =
    ruled (rank_at index k) (indexed.ordered.rank_below k l)
    (indexed.by_rank route.m k (omega (arith, route-in.m-below, route-in.in-range.machines-max)) l ∙ t.holds)
    (indexed.by_rank route.n k (omega (arith, route-in.n-below, route-in.in-range.machines-max)) l ∙ t.lacks)
    (rw (indexed.ordered.rank-share k l) t.test.in-margin)

-- ── Route: the other way round ──────────────────────────────────────────────────────────────────────────────────────────

abbrev pub reversed : Route → Route
reversed route = record { parted = route.parted; m = route.n; n = route.m; margin = route.margin }

-- whether two machines lie apart does not hang on their order
apart-sym : (a b : ℕ) → not (eqb a b) ≡ not (eqb b a)
apart-sym a b = elim (ℕ_discrete a b) [
  | yes e ↦ rw (eq-eqb a b e, eq-eqb b a (sym e))
  | no d ↦ rw (ne_eqb a b d, ne_eqb b a (λ q. d (sym q)))
]

pub reversed-in : {c : Cluster} {route : Route} → RouteIn c route → RouteIn c (reversed route)
reversed-in {c} {route} route-in =
    record {
      in-range = route-in.in-range;
      m-below = route-in.n-below;
      n-below = route-in.m-below;
      parted-is = route-in.parted-is ∙ apart-sym (domain_in c route.m) (domain_in c route.n);
      margin-narrow = route-in.margin-narrow;
    }

-- ── block_step, route_step ────────────────────────────────────────────────────────────────────────────────────────────────

-- the route's step is the first of its blocks' steps
blocks-first : (p : Plan) (words : List ℕ) (swapping across : Bool) (m n : ℕ)
    → first (block_count p) (block_step p words swapping across m n) ≡ route_step p words swapping across m n
unfolding route_step block_step
blocks-first p words false across m n = refl
blocks-first p words true across m n = refl

module _ (p : Plan) (words : List ℕ) (swapping across : Bool) (m n : ℕ) where
  pub route_step-found : (i : ℕ) (s : Step) → i < block_count p
      → ((k : ℕ) → k < i → is_step (block_step p words swapping across m n k) ≡ false)
      → s ≡ block_step p words swapping across m n i → is_step s ≡ true → s ≡ route_step p words swapping across m n
  route_step-found i s l before here is =
      sym (step-found (block_count p) i (block_step p words swapping across m n) s l before (sym here) is)
      ∙ blocks-first p words swapping across m n

  pub route_step-none : ((k : ℕ) → k < block_count p → is_step (block_step p words swapping across m n k) ≡ false)
      → none ≡ route_step p words swapping across m n
  route_step-none each =
      sym (none_found (block_count p) (block_step p words swapping across m n) each) ∙ blocks-first p words swapping across m n

module _ (p : Plan) (words : List ℕ) (across : Bool) (m n i : ℕ) where
  pub block_step-none : (swapping : Bool) → (swapping ≡ false → can_move p words m n i ≡ false)
      → (swapping ≡ true → (j : ℕ) → j < block_count p → can_swap p words m n i j ≡ false)
      → block_step p words swapping across m n i ≡ none
  unfolding block_step
  block_step-none false no_move no-swap = rw (no_move refl)
  block_step-none true no_move no-swap = test-none (block_count p) (can_swap p words m n i) (exchange across m n i) (no-swap refl)

  pub block_step-move : (swapping : Bool) → swapping ≡ false → can_move p words m n i ≡ true
      → block_step p words swapping across m n i ≡ relocate across m n i
  unfolding block_step
  block_step-move swapping kind here = rw (kind, here)

  pub block_step-swap : (swapping : Bool) → swapping ≡ true → (j : ℕ) → j < block_count p
      → ((k : ℕ) → k < j → can_swap p words m n i k ≡ false) → can_swap p words m n i j ≡ true
      → block_step p words swapping across m n i ≡ exchange across m n i j
  unfolding block_step
  block_step-swap swapping kind j l before here =
      rw kind (test-found (block_count p) j (can_swap p words m n i) (exchange across m n i) l before here refl)

-- ── PlacementOf, RouteScene: the definition's tests ─────────────────────────────────────────────────────────────────────

pub lies_at : (p : Plan) (count : ℕ → ℕ) (c : Cluster) (words profiles : List ℕ) → PlacementOf p count c words profiles
    → (i : ℕ) → i < c.blocks → Lies p c (word_of words i) (spread_in (get_or profiles i 0))
lies_at p count c words profiles of i l =
    record {
      cluster-of = of.profiles-of.cluster;
      enough = rw (placement-spread p count c words profiles of i l) (of.feasible.spread i (placement-block p count c words profiles of i l));
    }

-- the block that block i is linked to
module _ (p : Plan) (count : ℕ → ℕ) (c : Cluster) (words profiles : List ℕ) (of : PlacementOf p count c words profiles) where
  shaped : Shaped p
  shaped = of.profiles-of.cluster.valid.shaped

  module _ (i : ℕ) (l : i < c.blocks) where
    linked-paired : is_paired p i ≡ true → linked_to (get_or profiles i 0) i ≡ partner p i
    linked-paired e = profiles-mate p count c profiles of.profiles-of i l ∙ mate-paired p i e

    linked-single : is_paired p i ≡ false → linked_to (get_or profiles i 0) i ≡ i
    linked-single e = profiles-mate p count c profiles of.profiles-of i l ∙ mate-single p i e

    -- what holds of its partner, and of itself where it has none
    linked-all : (P : ℕ → Type 0) → (is_paired p i ≡ true → P (partner p i)) → P i → P (linked_to (get_or profiles i 0) i)
    linked-all P paired single = elim (bool_cases (is_paired p i)) [
      | inl e ↦ rw (linked-paired e) (paired e)
      | inr e ↦ rw (linked-single e) single
    ]

  -- a link leads back
  pub linked-back : (i k : ℕ) → i < c.blocks → k < c.blocks → linked_to (get_or profiles i 0) i ≡ k → linked_to (get_or profiles k 0) k ≡ i
  linked-back i k l h e = elim (bool_cases (is_paired p i)) [
    | inl own ↦
        let below = placement-block p count c words profiles of i l in
        let other : partner p i ≡ k = sym (linked-paired i l own) ∙ e in
        linked-paired k h (rw other at (partner-paired p shaped i below own)) ∙ rw other at (partner-partner p shaped i below own)
    | inr single ↦ let same : i ≡ k = sym (linked-single i l single) ∙ e in rw (sym same) (linked-single i l single)
  ]

-- what the definition's exchange of i for j comes to: block i's own part, and block j's, seen from the route the other way round; the
-- partner of either is not where it goes, unless it is the other one
pub record Exchange (p : Plan) (words profiles : List ℕ) (route : Route) (i j : ℕ) : Type 0 where
  pub holds : held words route.m i ≡ 1
  pub lacks : held words route.n i ≡ 0
  pub kept : spread_in (get_or profiles i 0) ≤ domains_used p (shifted (word_of words i) route.m route.n)
  pub back : Return p words profiles (reversed route) (share_in (get_or profiles i 0)) j
  pub i-free : (linked_to (get_or profiles i 0) i ≡ j → ⊥) → Free words profiles i route.n
  pub j-free : (linked_to (get_or profiles j 0) j ≡ i → ⊥) → Free words profiles j route.m

module _ (p : Plan) (count : ℕ → ℕ) (c : Cluster) (words profiles : List ℕ) (of : PlacementOf p count c words profiles)
    (route : Route) (i j : ℕ) (x : Exchange p words profiles route i j) where
  -- where i's partner is not on n, j's is not on m
  pub exchange-free : i < c.blocks → j < c.blocks → Free words profiles i route.n
      → FreeReturn p words profiles (reversed route) (share_in (get_or profiles i 0)) j
  exchange-free il jl free =
      record {
        back = x.back;
        free = x.j-free (λ e.
            let back = ap (λ (k : ℕ). held words route.n k) (linked-back p count c words profiles of j i jl il e) in
            omega (arith, back, free, x.back.holds));
      }

  -- where it is, it is j
  pub exchange-own : (Free words profiles i route.n → ⊥) → linked_to (get_or profiles i 0) i ≡ j
  exchange-own bound = elim (ℕ_discrete (linked_to (get_or profiles i 0) i) j) [
    | yes e ↦ e
    | no other ↦ absurd (bound (x.i-free other))
  ]

module _ (p : Plan) (count : ℕ → ℕ) (c : Cluster) (words profiles : List ℕ) (route : Route)
    (scene : RouteScene p count c words profiles route) (route-in : RouteIn c route) where
  share-is : (i : ℕ) → i < c.blocks → share_in (get_or profiles i 0) ≡ share_of p words i
  share-is = placement-share p count c words profiles scene.placement

  spread-is : (i : ℕ) → i < c.blocks → spread_in (get_or profiles i 0) ≡ (block_of p i).min_domains
  spread-is = placement-spread p count c words profiles scene.placement

  in-plan : (i : ℕ) → i < c.blocks → i < block_count p
  in-plan = placement-block p count c words profiles scene.placement

  m-in : route.m < machines p
  m-in = placement-machine p count c words profiles scene.placement route.m route-in.m-below

  n-in : route.n < machines p
  n-in = placement-machine p count c words profiles scene.placement route.n route-in.n-below

  abbrev of : PlacementOf p count c words profiles
  of = scene.placement

  module _ (i : ℕ) (il : i < c.blocks) where
    local-move : (can_move p words route.m route.n i ≡ true) ↔ LocalMove p words route.m route.n i
    local-move =
        can_move-local p (shaped p count c words profiles of) count words of.feasible route.m route.n i m-in n-in (in-plan i il)

    linked-is : is_paired p i ≡ true → linked_to (get_or profiles i 0) i ≡ partner p i
    linked-is = linked-paired p count c words profiles of i il

    -- a block that is not on a machine is free to go there, as far as its partner is not
    free-paired : (n : ℕ) → held words n i ≡ 0 → (is_paired p i ≡ true → held words n (partner p i) ≡ 0) → Free words profiles i n
    free-paired n off apart = linked-all p count c words profiles of i il (λ k. held words n k ≡ 0) apart off

    -- the definition's move of a candidate, where n has room, told by the local tests
    pub move-told : held words route.m i ≡ 1 → held words route.n i ≡ 0 → used p words route.n < p.capacity
        → (can_move p words route.m route.n i ≡ true)
        ↔ (Passable p route (word_of words i) (spread_in (get_or profiles i 0)) (share_in (get_or profiles i 0)) 0 × Free words profiles i route.n)
    move-told holds lacks room =
        let share = share-is i il in
        let spread = spread-is i il in (
          λ e.
              let s = local-move.0 e in (
                rw (share, spread) (record { in-margin = (scene.margin-is _ _).0 s.lowers; spread-kept = s.spread }),
                free-paired route.n lacks s.apart,
              ),
          λ t.
              let test = rw (share, spread) at t.0 in
              local-move.1
              (record {
                on = holds;
                off = lacks;
                room = room;
                lowers = (scene.margin-is _ _).1 test.in-margin;
                spread = test.spread-kept;
                apart = λ own. rw (linked-is own) at t.1;
              }),
        )

    -- its exchange for j
    pub swap-exchange : (j : ℕ) → j < c.blocks
        → (can_swap p words route.m route.n i j ≡ true) ↔ Exchange p words profiles route i j
    swap-exchange j jl =
        let local =
        can_swap-local p (shaped p count c words profiles of) count words of.feasible route.m route.n i j m-in n-in (in-plan i il) (in-plan j jl)
        in
        let margin : Lowers p words route.m route.n (share_of p words i) (share_of p words j)
        ↔ InMargin route.margin (share_in (get_or profiles i 0)) (share_in (get_or profiles j 0)) =
        rw (share-is i il, share-is j jl) (scene.margin-is _ _)
        in (
          λ e.
              let s = local.0 e in
              record {
                holds = s.i-on;
                lacks = s.i-off;
                kept = rw (spread-is i il) s.i-spread;
                back =
                    record {
                      holds = s.j-on;
                      lacks = s.j-off;
                      test = record { in-margin = margin.0 s.lowers; spread-kept = rw (spread-is j jl) s.j-spread };
                    };
                i-free = λ other. free-paired route.n s.i-off (λ own. s.i-apart own (λ q. other (linked-is own ∙ q)));
                j-free = λ other. linked-all p count c words profiles of j jl (λ k. held words route.m k ≡ 0)
                    (λ own. s.j-apart own (λ q. other (linked-paired p count c words profiles of j jl own ∙ q))) s.j-off;
              },
          λ t. local.1
              (record {
                i-on = t.holds;
                i-off = t.lacks;
                j-on = t.back.holds;
                j-off = t.back.lacks;
                lowers = margin.1 t.back.test.in-margin;
                i-spread = rw (spread-is i il) at t.kept;
                j-spread = rw (spread-is j jl) at t.back.test.spread-kept;
                i-apart = λ own other. rw (linked-is own) at (t.i-free (λ q. other (sym (linked-is own) ∙ q)));
                j-apart = λ own other.
                    let is = linked-paired p count c words profiles of j jl own in rw is at (t.j-free (λ q. other (sym is ∙ q)));
              }),
        )

    -- a block that is no candidate takes part in no step
    pub block_step-others : (swapping across : Bool) → (held words route.m i ≡ 1 → held words route.n i ≡ 0 → ⊥)
        → is_step (block_step p words swapping across route.m route.n i) ≡ false
    block_step-others swapping across other =
        ap is_step (block_step-none p words across route.m route.n i swapping
        (λ e. not_so _ (λ t. let s = local-move.0 t in other s.on s.off))
        (λ e j l. not_so _ (λ t.
        let s = (swap-exchange j (rw (cluster-blocks p c scene.placement.profiles-of.cluster) l)).0 t in
        other s.holds s.lacks)))
