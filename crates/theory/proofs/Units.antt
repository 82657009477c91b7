-- Document 02, U5: a share in 2520ths is three times that in 840ths, and neither the chosen counts nor the steps go by the unit: in any
-- unit that all counts divide, two shares compare as the popularities do, each times the other's count, and the loads of lawful placements
-- are in the ratio of the units. So every search finds the same step, and every run takes the same steps.
-- Assumes nothing.
use mathlib.Core.Path.{◌≡◌, refl, ap, ap₂, sym, fun_ext, ◌∙◌}
use mathlib.Core.Bool.{◌&&◌}
use mathlib.Core.List.{List}
use mathlib.Core.Logic.{inl, inr, ◌↔◌}
use Prim.Native.Nat.{ℕ, zero, suc, ◌*◌, ◌<◌, ◌≤◌}
use native.Mathlib.Nat.{eq_of_mul-eq-mul_right, mul-le-mul_left, le_antisymm, le_refl, le_trans}
use native.Mathlib.Decide.{dec_lt}
use native.Mathlib.Omega.{arith}
use borrow.Author.Tests.{lt-ltb, le-ltb}
use lib.Dec.{ltb}
use Rattle.order.specs.Search.{largest, smallest, allb}
use Rattle.order.proofs.Booleans.{bool_cases}
use Rattle.order.proofs.Sums.{sum-cong, sum-mul}
use Rattle.order.proofs.Extremes.{largest-term, largest-le, largest-at}
use Rattle.model.specs.Plan.{Plan, machines, max_replicas, block_count, block_of, upper}
use Rattle.model.specs.Replication.{FeasibleCounts, unit, share, largest_share, chosen}
use Rattle.model.specs.Placement.{held, count_of, Feasible, is_feasible, share_of, load, max_load_of, min_load_of, total_load_of, max_share}
use Rattle.model.specs.Steps.{after, improves, can_move, can_swap, next_move, next_swap, next_step, run}
use Rattle.model.specs.Calls.{report_of}
use Rattle.theory.specs.Refusal.{Valid}
use Rattle.theory.specs.Units.{earlier_unit, share_by, largest_by, Tripled, ChosenBy, load_by, improves_by, can_move_by, can_swap_by, next_step_by, run_by, report_by, OwnUnit, UnitFree, DividedBy, threefold, Units}
use Rattle.theory.proofs.Plan.{max_replicas-early, upper-version, upper-max}
use Rattle.theory.proofs.Replication.{all_divide, all_divide-at, unit-divides, share_by-exact, share_by-compares, share-exact, share-compares, largest_share-term, chosen-counts}
use Rattle.theory.proofs.Placement.{is_feasible-exact}
use Rattle.theory.proofs.StepsNext.{next_step-feasible}

-- ── Tripled ──────────────────────────────────────────────────────────────────────────────────────
earlier-divides : DividedBy 8 earlier_unit
unfolding all_divide allb
earlier-divides = all_divide-at 8 earlier_unit refl

pub tripled : Tripled
tripled P k pos few =
    let whole = share-exact P k (unit-divides k pos (omega arith)) in
    let before = share_by-exact earlier_unit P k (earlier-divides k pos few) in
    eq_of_mul-eq-mul_right k pos _ _ (omega (arith, whole, before))

-- ── OwnUnit ──────────────────────────────────────────────────────────────────────────────────────
next-own : (p : Plan) (words : List ℕ) → next_step_by unit p words ≡ next_step p words
unfolding next_step_by can_move_by can_swap_by improves_by load_by share_by next_step next_move next_swap can_move can_swap improves load share_of share
next-own p words = refl

runs_own : (p : Plan) (limit : ℕ) (words : List ℕ) → run_by unit p limit words ≡ run p limit words
unfolding run_by run
runs_own p zero words = rw (next-own p words)
runs_own p (suc limit) words = rw (next-own p words, runs_own p limit (after words (next_step p words)))

report-own : (p : Plan) (words : List ℕ) → report_by unit p words ≡ report_of p words
unfolding report_by largest_by load_by share_by report_of max_load_of min_load_of total_load_of max_share load share_of share
report-own p words = refl

pub own-unit : OwnUnit
own-unit = record { next = next-own; runs = runs_own; report = report-own }

-- ── UnitFree ─────────────────────────────────────────────────────────────────────────────────────
-- what is within a largest term passes from the one list of terms to the other
largest-passes : (n : ℕ) (f g : ℕ → ℕ) (a b : ℕ) → 0 < n → ((j : ℕ) → j < n → a ≤ f j → b ≤ g j) → a ≤ largest n f → b ≤ largest n g
largest-passes n f g a b some passes within =
    let top = largest-at n f some in
    le_trans (passes top.0 top.1 (rw top.2 at within)) (largest-term n g top.0 top.1)

module _ (units : ℕ) (pos : 1 ≤ units) (p : Plan) (v : Valid p) (divided : DividedBy (max_replicas p.version) units) where
  -- shares at lawful counts compare alike
  alike : (i j a b : ℕ) → 1 ≤ a → a ≤ upper p i → 1 ≤ b → b ≤ upper p j
      → (share (block_of p i).popularity a ≤ share (block_of p j).popularity b)
      ↔ (share_by units (block_of p i).popularity a ≤ share_by units (block_of p j).popularity b)
  alike i j a b a1 a2 b1 b2 =
      let both = share-compares _ a _ b (unit-divides a a1 (le_trans a2 (upper-max p i))) (unit-divides b b1 (le_trans b2 (upper-max p j))) in
      let same = share_by-compares units pos (block_of p i).popularity a (block_of p j).popularity b
      (divided a a1 (le_trans a2 (upper-version p i))) (divided b b1 (le_trans b2 (upper-version p j))) in
      (λ l. same.1 (both.0 l), λ l. both.1 (same.0 l))

  module _ (count : ℕ → ℕ) (c : FeasibleCounts p count) where
    -- a share is within the largest one in the one unit as in the other
    within-alike : (i k : ℕ) → i < block_count p → 1 ≤ k → k ≤ upper p i
        → (share (block_of p i).popularity k ≤ largest_share p count)
        ↔ (share_by units (block_of p i).popularity k ≤ largest_by units p count)
    unfolding largest_share largest_by
    within-alike i k l k1 k2 = (
      largest-passes (block_count p) _ _ _ _ (omega arith) (λ j m. (at_block j m).0),
      largest-passes (block_count p) _ _ _ _ (omega arith) (λ j m. (at_block j m).1),
    )
      where
        at_block : (j : ℕ) → j < block_count p
            → (share (block_of p i).popularity k ≤ share (block_of p j).popularity (count j))
            ↔ (share_by units (block_of p i).popularity k ≤ share_by units (block_of p j).popularity (count j))
        at_block j m =
            alike i j k (count j) k1 k2 (le_trans (v.shaped.block j m).min-pos (c.at_least j m)) (c.at_most j m)

  -- so the chosen counts are the choice in either
  chosen-by-units : ChosenBy units p (chosen p)
  unfolding largest_by
  chosen-by-units =
      let laws = chosen-counts p v in
      record {
        feasible = laws.feasible;
        optimal = λ other c.
            largest-le (block_count p) _ (largest_by units p other)
            (λ i l.
            (within-alike other c i (chosen p i) l (le_trans (v.shaped.block i l).min-pos (laws.feasible.at_least i l))
            (laws.feasible.at_most i l)).0
            (le_trans (largest_share-term p (chosen p) i l) (laws.optimal other c)));
        smallest-count = λ i k l low high w.
            laws.smallest-count i k l low high
            (rw laws.figure-is at
            ((within-alike (chosen p) laws.feasible i k l (le_trans (v.shaped.block i l).min-pos low) high).1 w));
      }

  -- Loads of a lawful placement are in the ratio of the units, as every share is,
  module _ (count : ℕ → ℕ) (words : List ℕ) (feasible : Feasible p count words) where
    share-ratio : (i : ℕ) → i < block_count p
        → unit * share_by units (block_of p i).popularity (count_of p words i) ≡ units * share_of p words i
    unfolding share_of
    share-ratio i l =
        let counts = feasible.counts in
        let k = count_of p words i in
        let few : k ≤ upper p i = rw (feasible.counted i l) (counts.at_most i l) in
        let some : 1 ≤ k = rw (feasible.counted i l) (le_trans (v.shaped.block i l).min-pos (counts.at_least i l)) in
        let here = share-exact (block_of p i).popularity k (unit-divides k some (le_trans few (upper-max p i))) in
        let there = share_by-exact units (block_of p i).popularity k (divided k some (le_trans few (upper-version p i))) in
        eq_of_mul-eq-mul_right k some _ _ (omega (arith, ap (λ (x : ℕ). x * units) here, there))

    pub load-ratio : (m : ℕ) → unit * load_by units p words m ≡ units * load p words m
    unfolding load_by load
    load-ratio m =
        sym (sum-mul (block_count p) unit _)
        ∙ sum-cong (block_count p) _ _
        (λ i l. omega (arith, ap (λ (x : ℕ). held words m i * x) (share-ratio i l)))
        ∙ sum-mul (block_count p) units _

  -- so that they compare alike
  less-alike : (a b x y : ℕ) → unit * a ≡ units * x → unit * b ≡ units * y → ltb a b ≡ ltb x y
  less-alike a b x y ea eb = elim (dec_lt x y) [
    | yes l ↦
        let scaled : units * suc x ≤ units * y = mul-le-mul_left units l in
        lt-ltb a b (omega (arith, ea, eb)) ∙ sym (lt-ltb x y l)
    | no l ↦
        let scaled : units * y ≤ units * x = mul-le-mul_left units (omega arith) in
        le-ltb a b (omega (arith, ea, eb)) ∙ sym (le-ltb x y (omega arith))
  ]

  steps_alike : (count : ℕ → ℕ) (words : List ℕ) → Feasible p count words
      → (later : List ℕ) (m n : ℕ) → improves_by units p words later m n ≡ improves p words later m n
  unfolding improves_by improves
  steps_alike count words feasible later m n = elim (bool_cases (is_feasible p later)) [
    | inl e ↦
        let ratio = load-ratio (count_of p later) later ((is_feasible-exact p later).0 e) in
        let source = load-ratio count words feasible m in
        rw e (ap₂ ◌&&◌ (less-alike _ _ _ _ (ratio m) source) (less-alike _ _ _ _ (ratio n) source))
    | inr e ↦ rw e
  ]

  -- so are the tests of the searches, and a run takes steps from lawful placements alone
  next-alike : (count : ℕ → ℕ) (words : List ℕ) → Feasible p count words → next_step_by units p words ≡ next_step p words
  unfolding next_step_by can_move_by can_swap_by next_step next_move next_swap can_move can_swap
  next-alike count words feasible =
      let same : improves_by units p words ≡ improves p words =
      fun_ext (λ later. fun_ext (λ m. fun_ext (λ n. steps_alike count words feasible later m n)))
      in
      rw same

  runs-alike : (count : ℕ → ℕ) (words : List ℕ) → Feasible p count words → (limit : ℕ) → run_by units p limit words ≡ run p limit words
  unfolding run_by run
  runs-alike count words feasible zero = rw (next-alike count words feasible)
  runs-alike count words feasible (suc limit) =
      rw (
        next-alike count words feasible,
        runs-alike count (after words (next_step p words)) (next_step-feasible p count words feasible) limit,
      )

  -- either largest share is at most the other, so that each count is within both
  unit-free : UnitFree units p
  unfolding largest_by
  unit-free =
      record {
        chosen_by = chosen-by-units;
        no-others = λ count by i l.
            let own = chosen-by-units in
            let same : largest_by units p count ≡ largest_by units p (chosen p) =
            le_antisymm (by.optimal (chosen p) own.feasible) (own.optimal count by.feasible)
            in
            le_antisymm
            (by.smallest-count i (chosen p i) l (own.feasible.at_least i l) (own.feasible.at_most i l)
            (rw same (largest-term (block_count p) (λ j. share_by units (block_of p j).popularity (chosen p j)) i l)))
            (own.smallest-count i (count i) l (by.feasible.at_least i l) (by.feasible.at_most i l)
            (rw (← same) (largest-term (block_count p) (λ j. share_by units (block_of p j).popularity (count j)) i l)));
        steps = steps_alike;
        next = next-alike;
        runs = runs-alike;
      }

-- ── UnitLaws ─────────────────────────────────────────────────────────────────────────────────────
largest-threefold : (n : ℕ) (f g : ℕ → ℕ) → ((i : ℕ) → i < n → f i ≡ 3 * g i) → largest n f ≡ 3 * largest n g
unfolding largest
largest-threefold zero f g each = refl
largest-threefold (suc n) f g each =
    omega (arith, largest-threefold n f g (λ i l. each i (omega arith)), each n (le_refl (suc n)))

smallest-threefold : (n : ℕ) (f g : ℕ → ℕ) → ((i : ℕ) → f i ≡ 3 * g i) → smallest n f ≡ 3 * smallest n g
unfolding smallest
smallest-threefold zero f g each = each 0
smallest-threefold (suc n) f g each = omega (arith, smallest-threefold n f g each, each n)

module _ (p : Plan) (v : Valid p) (old : p.version ≤ 2) where
  divides-early : DividedBy (max_replicas p.version) earlier_unit
  divides-early = rw (← (max_replicas-early p.version (omega arith))) earlier-divides

  module _ (count : ℕ → ℕ) (words : List ℕ) (feasible : Feasible p count words) where
    load-threefold : (m : ℕ) → load p words m ≡ 3 * load_by earlier_unit p words m
    load-threefold m = omega (arith, load-ratio earlier_unit (omega arith) p v divides-early count words feasible m)

    share-threefold : (i : ℕ) → i < block_count p
        → share_of p words i ≡ 3 * share_by earlier_unit (block_of p i).popularity (count_of p words i)
    share-threefold i l = omega (arith, share-ratio earlier_unit (omega arith) p v divides-early count words feasible i l)

    report-threefold : report_of p words ≡ threefold (report_by earlier_unit p words)
    unfolding report_of max_load_of min_load_of total_load_of max_share report_by largest_by threefold
    report-threefold =
        let loads = load_by earlier_unit p words in
        rw (
          largest-threefold (machines p) (load p words) loads (λ m l. load-threefold m),
          smallest-threefold (machines p) (load p words) loads load-threefold,
          sum-cong (machines p) (load p words) (λ m. 3 * loads m) (λ m l. load-threefold m) ∙ sum-mul (machines p) 3 loads,
          largest-threefold (block_count p) (share_of p words) _ share-threefold,
        )

pub units : Units
units p v =
    record {
      any = λ units pos divided. unit-free units pos p v divided;
      earlier = λ old. unit-free earlier_unit (omega arith) p v (divides-early p v old);
      loads = λ old. load-threefold p v old;
      reports = λ old. report-threefold p v old;
    }
