-- Laws of the tests of a step, the second part of Steps. For a feasible placement the document's step (lawful afterwards, both loads
-- below Lm) is a test of the loads, copies and words before it; and a step keeps the placement feasible, at its counts.
-- Assumes nothing.
use mathlib.Core.Path.{◌≡◌, refl, ap, sym, ◌∙◌}
use mathlib.Core.Bool.{true, not}
use mathlib.Core.List.{List}
use mathlib.Core.Logic.{inl, inr, ◌↔◌}
use Prim.Native.Nat.{ℕ, ◌+◌, ◌^◌, ◌≤◌, ◌<◌}
use native.Mathlib.Decide.{ℕ_discrete}
use native.Mathlib.Omega.{arith}
use borrow.Author.Tests.{eqb-false, ne_eqb, not-true}
use lib.Dec.{eqb}
use Rattle.order.specs.Sum.{delta}
use Rattle.order.proofs.Sums.{delta-same, delta-other}
use Rattle.order.proofs.Booleans.{and-iff, ltb_iff, eqb-iff}
use Rattle.model.specs.Plan.{Plan, machines, block_count, block_of, is_paired, partner}
use Rattle.model.specs.Placement.{bit, word_of, held, domains_used, count_of, used, Feasible, share_of, load}
use Rattle.model.specs.Steps.{Step, none, relocate, exchange, after_move, after_swap, after, improves, can_move, can_swap}
use Rattle.theory.specs.Refusal.{Shaped}
use Rattle.theory.specs.Steps.{Lowers, LocalMove, LocalSwap, CanMoveLocal, CanSwapLocal, Admissible}
use Rattle.theory.proofs.Placement.{bit_le, bit-cases, feasible-same, feasible-own, is_feasible-exact}
use Rattle.theory.proofs.Plan.{partner-other, partner-paired, partner-partner}
use Rattle.theory.proofs.Steps.{shifted-below, after_move-word, after_move-each, after_move-held, after_move-held-target, after_move-count, after_move-used, after_move-load-source, after_move-load-target, after_swap-word-i, after_swap-word-j, after_swap-each, after_swap-held, after_swap-held-source, after_swap-held-target, after_swap-count, after_swap-used, after_swap-load-source, after_swap-load-target}

-- ── improves ─────────────────────────────────────────────────────────────────────────────────────
improves-iff : (p : Plan) (words later : List ℕ) (m n : ℕ)
    → (improves p words later m n ≡ true)
    ↔ ((Feasible p (count_of p later) later × (load p later m < load p words m)) × (load p later n < load p words m))
unfolding improves
improves-iff p words later m n = and-iff _ _ (and-iff _ _ (is_feasible-exact p later) (ltb_iff _ _)) (ltb_iff _ _)

-- ── holds ────────────────────────────────────────────────────────────────────────────────────────
set-iff : (w k : ℕ) → (eqb (bit w k) 1 ≡ true) ↔ (bit w k ≡ 1)
set-iff w k = eqb-iff (bit w k) 1

clear-iff : (w k : ℕ) → (not (eqb (bit w k) 1) ≡ true) ↔ (bit w k ≡ 0)
clear-iff w k = (clear, λ e. rw (ne_eqb (bit w k) 1 (λ q. omega arith)))
  where
    clear : not (eqb (bit w k) 1) ≡ true → bit w k ≡ 0
    clear e = elim (bit-cases w k) [ inl z ↦ z | inr o ↦ absurd (eqb-false (bit w k) 1 (not-true _ e) o) ]

-- ── Feasible.apart ───────────────────────────────────────────────────────────────────────────────
-- What one machine holds before and after a step that brings it block x, and takes block y if it takes one. It keeps pairs apart
-- exactly if x's partner is not there, or is y.
module _ (p : Plan) (shaped : Shaped p) (x : ℕ) (xl : x < block_count p) (before later : ℕ → ℕ) where
  -- at most x has come, and its partner is not there afterwards
  comes : ((b : ℕ) → later b ≤ before b + delta b x) → ((b : ℕ) → later b ≤ 1) → (is_paired p x ≡ true → later (partner p x) ≡ 0)
      → (b : ℕ) → b < block_count p → is_paired p b ≡ true → before b + before (partner p b) ≤ 1 → later b + later (partner p b) ≤ 1
  comes come most free b l paired apart = go (ℕ_discrete b x) (ℕ_discrete (partner p b) x)
    where
      go : Dec (b ≡ x) → Dec (partner p b ≡ x) → later b + later (partner p b) ≤ 1
      go (yes e) other =
          let none : later (partner p b) ≡ 0 = ap (λ (c : ℕ). later (partner p c)) e ∙ free (ap (is_paired p) (sym e) ∙ paired) in
          omega (arith, most b)
      go (no e) (yes f) =
          let back : partner p x ≡ b = ap (partner p) (sym f) ∙ partner-partner p shaped b l paired in
          let none : later b ≡ 0 =
          ap later (sym back) ∙ free (ap (is_paired p) (sym f) ∙ partner-paired p shaped b l paired)
          in
          omega (arith, most (partner p b))
      go (no e) (no f) = omega (arith, come b, come (partner p b), delta-other b x e, delta-other (partner p b) x f)

  -- x comes
  module _ (added : (b : ℕ) → later b ≡ before b + delta b x) where
    arrived : is_paired p x ≡ true → later x + later (partner p x) ≤ 1 → before (partner p x) ≡ 0
    arrived paired one =
        omega (arith, added x, delta-same x x refl, added (partner p x), delta-other (partner p x) x (partner-other p shaped x xl paired))

    arrives : ((b : ℕ) → later b ≤ 1) → (is_paired p x ≡ true → before (partner p x) ≡ 0)
        → (b : ℕ) → b < block_count p → is_paired p b ≡ true → before b + before (partner p b) ≤ 1 → later b + later (partner p b) ≤ 1
    arrives most free =
        comes (λ b. omega (arith, added b)) most
        (λ paired. omega (arith, free paired, added (partner p x), delta-other (partner p x) x (partner-other p shaped x xl paired)))

  -- x comes for y
  module _ (y : ℕ) (off : before x ≡ 0) (on : before y ≡ 1) (swapped : (b : ℕ) → later b + delta b y ≡ before b + delta b x) where
    other : x ≡ y → ⊥
    other e = omega (arith, ap before e)

    replaced : is_paired p x ≡ true → later x + later (partner p x) ≤ 1 → (partner p x ≡ y → ⊥) → before (partner p x) ≡ 0
    replaced paired one apart =
        omega (
          arith,
          swapped x,
          delta-same x x refl,
          delta-other x y other,
          swapped (partner p x),
          delta-other (partner p x) x (partner-other p shaped x xl paired),
          delta-other (partner p x) y apart,
        )

    replaces : ((b : ℕ) → later b ≤ 1) → (is_paired p x ≡ true → (partner p x ≡ y → ⊥) → before (partner p x) ≡ 0)
        → (b : ℕ) → b < block_count p → is_paired p b ≡ true → before b + before (partner p b) ≤ 1 → later b + later (partner p b) ≤ 1
    replaces most free = comes (λ b. omega (arith, swapped b)) most (λ paired. gone paired (ℕ_discrete (partner p x) y))
      where
        gone : is_paired p x ≡ true → Dec (partner p x ≡ y) → later (partner p x) ≡ 0
        gone paired (yes e) =
            let d = delta-other (partner p x) x (partner-other p shaped x xl paired) in
            omega (arith, swapped (partner p x), delta-same (partner p x) y e, ap before e)
        gone paired (no e) =
            let d = delta-other (partner p x) x (partner-other p shaped x xl paired) in
            omega (arith, swapped (partner p x), delta-other (partner p x) y e, free paired e)

-- a machine that gets nothing
leaves : (before later : ℕ → ℕ) → ((b : ℕ) → later b ≤ before b) → (b c : ℕ) → before b + before c ≤ 1 → later b + later c ≤ 1
leaves before later fewer b c apart = omega (arith, fewer b, fewer c)

-- ── can_move ──────────────────────────────────────────────────────────────────────────────────────
can_move-iff : (p : Plan) (words : List ℕ) (m n i : ℕ)
    → (can_move p words m n i ≡ true)
    ↔ ((((held words m i ≡ 1) × (held words n i ≡ 0)) × (used p words n < p.capacity))
    × (improves p words (after_move words m n i) m n ≡ true))
unfolding can_move
can_move-iff p words m n i =
    and-iff _ _ (and-iff _ _ (and-iff _ _ (set-iff (word_of words i) m) (clear-iff (word_of words i) n)) (ltb_iff _ _)) (λ e. e, λ e. e)

-- what a move does to the two loads
pub can_move-lowers : (p : Plan) (words : List ℕ) (m n i : ℕ) → m < machines p → n < machines p → i < block_count p
    → can_move p words m n i ≡ true → (held words m i ≡ 1) × (held words n i ≡ 0) × Lowers p words m n (share_of p words i) 0
can_move-lowers p words m n i ml nl il e =
    let z = (can_move-iff p words m n i).0 e in
    let on = z.0.0.0 in
    let off = z.0.0.1 in
    let later = (improves-iff p words (after_move words m n i) m n).0 z.1 in
    let source = after_move-load-source p words m n i on off ml nl il in
    let target = after_move-load-target p words m n i on off ml nl il in
    let less = later.0.1 in
    let most = later.1 in
    (on, off, (omega arith, omega arith))

module _ (p : Plan) (shaped : Shaped p) (count : ℕ → ℕ) (words : List ℕ) (feasible : Feasible p count words) (m n i : ℕ)
    (ml : m < machines p) (nl : n < machines p) (il : i < block_count p) where
  after_move-feasible : LocalMove p words m n i → Feasible p count (after_move words m n i)
  after_move-feasible s =
      let on = s.on in
      let off = s.off in
      record {
        counts = feasible.counts;
        within = λ b l. after_move-each (λ c w. w < 2 ^ machines p) words m n i on
            (shifted-below (word_of words i) (machines p) m n (feasible.within i il) ml nl on off) b (feasible.within b l);
        counted = λ b l. after_move-count p words m n i on off ml nl b ∙ feasible.counted b l;
        spread = λ b l. after_move-each (λ c w. (block_of p c).min_domains ≤ domains_used p w) words m n i on s.spread b (feasible.spread b l);
        fits = λ k l. fits k (after_move-used p words m n i on off il k) (feasible.fits k l) (ℕ_discrete k n);
        apart = λ b l paired k kl. apart b l paired k (feasible.apart b l paired k kl) (ℕ_discrete k n);
      }
    where
      apart : (b : ℕ) → b < block_count p → is_paired p b ≡ true → (k : ℕ) → held words k b + held words k (partner p b) ≤ 1
          → Dec (k ≡ n) → held (after_move words m n i) k b + held (after_move words m n i) k (partner p b) ≤ 1
      apart b l paired k before (yes e) =
          rw e
          (arrives p shaped i il (held words n) (held (after_move words m n i) n) (after_move-held-target words m n i s.on s.off)
          (λ c. bit_le (word_of (after_move words m n i) c) n) s.apart b l paired (rw e at before))
      apart b l paired k before (no e) =
          leaves (held words k) (held (after_move words m n i) k)
          (λ c. let h = rw (delta-other k n e) at (after_move-held words m n i s.on s.off k c) in omega arith)
          b (partner p b) before

      fits : (k : ℕ) → used p (after_move words m n i) k + delta k m ≡ used p words k + delta k n → used p words k ≤ p.capacity
          → Dec (k ≡ n) → used p (after_move words m n i) k ≤ p.capacity
      fits k e l (yes same) =
          let room : used p words k < p.capacity = rw same s.room in
          let d = delta-same k n same in
          omega arith
      fits k e l (no apart) = let d = delta-other k n apart in omega arith

pub can_move-local : CanMoveLocal
can_move-local p shaped count words feasible m n i ml nl il = (there, back)
  where
    there : can_move p words m n i ≡ true → LocalMove p words m n i
    there e =
        let z = (can_move-iff p words m n i).0 e in
        let told = can_move-lowers p words m n i ml nl il e in
        let on = told.0 in
        let off = told.1 in
        let later = (improves-iff p words (after_move words m n i) m n).0 z.1 in
        record {
          on = on;
          off = off;
          room = z.0.1;
          lowers = told.2;
          spread = rw (after_move-word words m n i on) at (later.0.0.spread i il);
          apart = λ own.
              arrived p shaped i il (held words n) (held (after_move words m n i) n) (after_move-held-target words m n i on off) own
              (later.0.0.apart i il own n nl);
        }

    back : LocalMove p words m n i → can_move p words m n i ≡ true
    back s =
        let source = after_move-load-source p words m n i s.on s.off ml nl il in
        let target = after_move-load-target p words m n i s.on s.off ml nl il in
        let lowers = s.lowers in
        let later = feasible-own p count (after_move words m n i) (after_move-feasible p shaped count words feasible m n i ml nl il s) in
        (can_move-iff p words m n i).1 (
          ((s.on, s.off), s.room),
          (improves-iff p words (after_move words m n i) m n).1 ((later, omega arith), omega arith),
        )

-- ── can_swap ──────────────────────────────────────────────────────────────────────────────────────
can_swap-iff : (p : Plan) (words : List ℕ) (m n i j : ℕ)
    → (can_swap p words m n i j ≡ true)
    ↔ (((((held words m i ≡ 1) × (held words m j ≡ 0)) × (held words n j ≡ 1)) × (held words n i ≡ 0))
    × (improves p words (after_swap words m n i j) m n ≡ true))
unfolding can_swap
can_swap-iff p words m n i j =
    and-iff _ _ (and-iff _ _ (and-iff _ _ (and-iff _ _ (set-iff (word_of words i) m) (clear-iff (word_of words j) m))
    (set-iff (word_of words j) n)) (clear-iff (word_of words i) n)) (λ e. e, λ e. e)

-- what a swap does to them
pub can_swap-lowers : (p : Plan) (words : List ℕ) (m n i j : ℕ) → m < machines p → n < machines p → i < block_count p → j < block_count p
    → can_swap p words m n i j ≡ true
    → (held words m i ≡ 1) × (held words n i ≡ 0) × (held words n j ≡ 1) × (held words m j ≡ 0)
    × Lowers p words m n (share_of p words i) (share_of p words j)
can_swap-lowers p words m n i j ml nl il jl e =
    let z = (can_swap-iff p words m n i j).0 e in
    let i-on = z.0.0.0.0 in
    let j-off = z.0.0.0.1 in
    let j-on = z.0.0.1 in
    let i-off = z.0.1 in
    let later = (improves-iff p words (after_swap words m n i j) m n).0 z.1 in
    let source = after_swap-load-source p words m n i j i-on i-off j-on j-off ml nl il jl in
    let target = after_swap-load-target p words m n i j i-on i-off j-on j-off ml nl il jl in
    let less = later.0.1 in
    let most = later.1 in
    (i-on, i-off, j-on, j-off, (omega arith, omega arith))

module _ (p : Plan) (shaped : Shaped p) (count : ℕ → ℕ) (words : List ℕ) (feasible : Feasible p count words) (m n i j : ℕ)
    (ml : m < machines p) (nl : n < machines p) (il : i < block_count p) (jl : j < block_count p) where
  after_swap-feasible : LocalSwap p words m n i j → Feasible p count (after_swap words m n i j)
  after_swap-feasible s =
      let each = after_swap-each p words m n i j s.i-on s.i-off s.j-on s.j-off in
      record {
        counts = feasible.counts;
        within = λ b l. each (λ c w. w < 2 ^ machines p)
            (shifted-below (word_of words i) (machines p) m n (feasible.within i il) ml nl s.i-on s.i-off)
            (shifted-below (word_of words j) (machines p) n m (feasible.within j jl) nl ml s.j-on s.j-off)
            b (feasible.within b l);
        counted = λ b l. after_swap-count p words m n i j s.i-on s.i-off s.j-on s.j-off ml nl b ∙ feasible.counted b l;
        spread = λ b l. each (λ c w. (block_of p c).min_domains ≤ domains_used p w) s.i-spread s.j-spread b (feasible.spread b l);
        fits = λ k l. rw (after_swap-used p words m n i j s.i-on s.i-off s.j-on s.j-off il jl k) (feasible.fits k l);
        apart = λ b l paired k kl. apart b l paired k (feasible.apart b l paired k kl) (ℕ_discrete k n) (ℕ_discrete k m);
      }
    where
      later : ℕ → ℕ → ℕ
      later = held (after_swap words m n i j)

      apart : (b : ℕ) → b < block_count p → is_paired p b ≡ true → (k : ℕ) → held words k b + held words k (partner p b) ≤ 1
          → Dec (k ≡ n) → Dec (k ≡ m) → later k b + later k (partner p b) ≤ 1
      apart b l paired k before (yes e) other =
          rw e
          (replaces p shaped i il (held words n) (later n) j s.i-off s.j-on
          (after_swap-held-target p words m n i j s.i-on s.i-off s.j-on s.j-off)
          (λ c. bit_le (word_of (after_swap words m n i j) c) n) s.i-apart b l paired (rw e at before))
      apart b l paired k before (no e) (yes f) =
          rw f
          (replaces p shaped j jl (held words m) (later m) i s.j-off s.i-on
          (after_swap-held-source p words m n i j s.i-on s.i-off s.j-on s.j-off)
          (λ c. bit_le (word_of (after_swap words m n i j) c) m) s.j-apart b l paired (rw f at before))
      apart b l paired k before (no e) (no f) =
          leaves (held words k) (later k)
          (λ c.
          let h = rw (delta-other k n e, delta-other k m f) at (after_swap-held p words m n i j s.i-on s.i-off s.j-on s.j-off k c) in
          omega arith)
          b (partner p b) before

pub can_swap-local : CanSwapLocal
can_swap-local p shaped count words feasible m n i j ml nl il jl = (there, back)
  where
    there : can_swap p words m n i j ≡ true → LocalSwap p words m n i j
    there e =
        let told = can_swap-lowers p words m n i j ml nl il jl e in
        let i-on = told.0 in
        let i-off = told.1 in
        let j-on = told.2 in
        let j-off = told.3 in
        let later = (improves-iff p words (after_swap words m n i j) m n).0 ((can_swap-iff p words m n i j).0 e).1 in
        record {
          i-on = i-on;
          i-off = i-off;
          j-on = j-on;
          j-off = j-off;
          lowers = told.4;
          i-spread = rw (after_swap-word-i p words m n i j i-on i-off j-on j-off) at (later.0.0.spread i il);
          j-spread = rw (after_swap-word-j p words m n i j i-on i-off j-on j-off) at (later.0.0.spread j jl);
          i-apart = λ own.
              replaced p shaped i il (held words n) (held (after_swap words m n i j) n) j i-off j-on
              (after_swap-held-target p words m n i j i-on i-off j-on j-off) own (later.0.0.apart i il own n nl);
          j-apart = λ own.
              replaced p shaped j jl (held words m) (held (after_swap words m n i j) m) i j-off i-on
              (after_swap-held-source p words m n i j i-on i-off j-on j-off) own (later.0.0.apart j jl own m ml);
        }

    back : LocalSwap p words m n i j → can_swap p words m n i j ≡ true
    back s =
        let source = after_swap-load-source p words m n i j s.i-on s.i-off s.j-on s.j-off ml nl il jl in
        let target = after_swap-load-target p words m n i j s.i-on s.i-off s.j-on s.j-off ml nl il jl in
        let lowers = s.lowers in
        let later = feasible-own p count (after_swap words m n i j) (after_swap-feasible p shaped count words feasible m n i j ml nl il jl s) in
        (can_swap-iff p words m n i j).1 (
          (((s.i-on, s.j-off), s.j-on), s.i-off),
          (improves-iff p words (after_swap words m n i j) m n).1 ((later, omega arith), omega arith),
        )

-- ── after ────────────────────────────────────────────────────────────────────────────────────────
-- a lawful step keeps the placement feasible, at its counts
pub after-feasible : (p : Plan) (count : ℕ → ℕ) (words : List ℕ) → Feasible p count words
    → (s : Step) → Admissible p words s → Feasible p count (after words s)
unfolding after
after-feasible p count words feasible none h = absurd h
after-feasible p count words feasible (relocate racks m n i) h =
    let z = (can_move-iff p words m n i).0 h.3 in
    feasible-same p _ count (after_move words m n i)
    (λ b l. after_move-count p words m n i z.0.0.0 z.0.0.1 h.0 h.1 b ∙ feasible.counted b l)
    ((improves-iff p words (after_move words m n i) m n).0 z.1).0.0
after-feasible p count words feasible (exchange racks m n i j) h =
    let z = (can_swap-iff p words m n i j).0 h.4 in
    feasible-same p _ count (after_swap words m n i j)
    (λ b l.
    after_swap-count p words m n i j z.0.0.0.0 z.0.1 z.0.0.1 z.0.0.0.1 h.0 h.1 b ∙ feasible.counted b l)
    ((improves-iff p words (after_swap words m n i j) m n).0 z.1).0.0
