-- Document 02, U5: shares are counted in 2520ths of a read, before in 840ths. What that changes, and what it does not.
use Rattle.std.specs.Prelude.{◌≡◌, Bool, true, false, not, cond, ◌&&◌, List, ℕ, zero, suc, ◌*◌, ◌/◌, ◌<◌, ◌≤◌, ltb}
use Rattle.std.specs.Int.{◌∣◌}
use Rattle.order.specs.Sum.{sum}
use Rattle.order.specs.Search.{largest, smallest}
use Rattle.model.specs.Plan.{Plan, machines, max_replicas, block_count, block_of, upper}
use Rattle.model.specs.Replication.{FeasibleCounts, unit, share, chosen}
use Rattle.model.specs.Placement.{held, count_of, used, Feasible, is_feasible, load}
use Rattle.model.specs.Steps.{Step, none, relocate, exchange, after_move, after_swap, after, improves, holds, is_step, first, routes, or_step, next_step, Run, run}
use Rattle.model.specs.Calls.{Report, report_of}
use Rattle.theory.specs.Refusal.{Valid}

-- The units in a read before.
abbrev pub earlier_unit : ℕ
earlier_unit = 840

-- The share of a copy with other units in a read, and the largest share.
unfoldable pub share_by : ℕ → ℕ → ℕ → ℕ
share_by units popularity count = popularity * units / count

unfoldable pub largest_by : ℕ → Plan → (ℕ → ℕ) → ℕ
largest_by units p count = largest (block_count p) (λ i. share_by units (block_of p i).popularity (count i))

-- "Three times the earlier shares": with 1 to 8 copies.
abbrev pub Tripled : Type 0
Tripled = (popularity count : ℕ) → 1 ≤ count → count ≤ 8 → share popularity count ≡ 3 * share_by earlier_unit popularity count

-- The document's choice with these units: lawful counts, no lawful counts have a smaller largest share, and each count is the least from
-- least copies on that keeps within it.
pub record ChosenBy (units : ℕ) (p : Plan) (count : ℕ → ℕ) : Type 0 where
  pub feasible : FeasibleCounts p count
  pub optimal : (other : ℕ → ℕ) → FeasibleCounts p other → largest_by units p count ≤ largest_by units p other
  pub smallest-count : (i k : ℕ) → i < block_count p → (block_of p i).min_replicas ≤ k → k ≤ upper p i
      → share_by units (block_of p i).popularity k ≤ largest_by units p count
      → count i ≤ k

-- The load of machine m with these units, and whether a step lowers loads as it must: the only place where steps look at them.
unfoldable pub load_by : ℕ → Plan → List ℕ → ℕ → ℕ
load_by units p words m =
    sum (block_count p) (λ i. held words m i * share_by units (block_of p i).popularity (count_of p words i))

unfoldable pub improves_by : ℕ → Plan → List ℕ → List ℕ → ℕ → ℕ → Bool
improves_by units p words later m n =
    is_feasible p later && ltb (load_by units p later m) (load_by units p words m)
    && ltb (load_by units p later n) (load_by units p words m)

-- The next step, runs and the report with these units: the model's definitions over `improves_by`, `load_by` and `largest_by`.
unfoldable pub can_move_by : ℕ → Plan → List ℕ → ℕ → ℕ → ℕ → Bool
can_move_by units p words m n i =
    holds words m i && not (holds words n i) && ltb (used p words n) p.capacity
    && improves_by units p words (after_move words m n i) m n

unfoldable pub can_swap_by : ℕ → Plan → List ℕ → ℕ → ℕ → ℕ → ℕ → Bool
can_swap_by units p words m n i j =
    holds words m i && not (holds words m j) && holds words n j && not (holds words n i)
    && improves_by units p words (after_swap words m n i j) m n

unfoldable pub next_step_by : ℕ → Plan → List ℕ → Step
next_step_by units p words =
    let move : Bool → Step =
    λ racks. routes p racks (λ m n. first (block_count p) (λ i. cond (can_move_by units p words m n i) (relocate racks m n i) none))
    in
    let swap : Bool → Step =
    λ racks.
    routes p racks
    (λ m n.
    first (block_count p)
    (λ i. first (block_count p) (λ j. cond (can_swap_by units p words m n i j) (exchange racks m n i j) none)))
    in
    or_step (move false) (or_step (swap false) (or_step (move true) (swap true)))

unfoldable pub run_by : ℕ → Plan → ℕ → List ℕ → Run
run_by units p zero words = record { rested = not (is_step (next_step_by units p words)); steps = 0; words = words }
run_by units p (suc limit) words =
    let next = next_step_by units p words in
    let later = run_by units p limit (after words next) in
    let stepped : Run = record { rested = later.rested; steps = suc later.steps; words = later.words } in
    cond (is_step next) stepped (record { rested = true; steps = 0; words = words })

unfoldable pub report_by : ℕ → Plan → List ℕ → Report
report_by units p words =
    let loads = load_by units p words in
    record {
      maximum = largest (machines p) loads;
      minimum = smallest (machines p) loads;
      total = sum (machines p) loads;
      top = largest_by units p (count_of p words);
    }

-- With the unit of today they are the model's own.
pub record OwnUnit : Type 0 where
  pub next : (p : Plan) (words : List ℕ) → next_step_by unit p words ≡ next_step p words
  pub runs : (p : Plan) (limit : ℕ) (words : List ℕ) → run_by unit p limit words ≡ run p limit words
  pub report : (p : Plan) (words : List ℕ) → report_by unit p words ≡ report_of p words

-- With these units the document's choice is the chosen counts and no others; and every lawful placement has the same steps, the same next
-- step, and the same run with any limit: `rest` or `spent`, the steps taken, and the words.
pub record UnitFree (units : ℕ) (p : Plan) : Type 0 where
  pub chosen_by : ChosenBy units p (chosen p)
  pub no-others : (count : ℕ → ℕ) → ChosenBy units p count → (i : ℕ) → i < block_count p → count i ≡ chosen p i
  pub steps : (count : ℕ → ℕ) (words : List ℕ) → Feasible p count words
      → (later : List ℕ) (m n : ℕ) → improves_by units p words later m n ≡ improves p words later m n
  pub next : (count : ℕ → ℕ) (words : List ℕ) → Feasible p count words → next_step_by units p words ≡ next_step p words
  pub runs : (count : ℕ → ℕ) (words : List ℕ) → Feasible p count words → (limit : ℕ) → run_by units p limit words ≡ run p limit words

-- Every count up to the most divides the units.
abbrev pub DividedBy : ℕ → ℕ → Type 0
DividedBy most units = (k : ℕ) → 1 ≤ k → k ≤ most → k ∣ units

-- Every number of a report times three.
unfoldable pub threefold : Report → Report
threefold r = record { maximum = 3 * r.maximum; minimum = 3 * r.minimum; total = 3 * r.total; top = 3 * r.top }

-- So it is with all units that every count of the plan's version divides, and with the earlier ones in versions 1 and 2, where loads and
-- every number of the report (hottest, coolest and total load, largest share) are three times the earlier ones.
pub record UnitLaws (p : Plan) : Type 0 where
  pub any : (units : ℕ) → 1 ≤ units → DividedBy (max_replicas p.version) units → UnitFree units p
  pub earlier : p.version ≤ 2 → UnitFree earlier_unit p
  pub loads : p.version ≤ 2 → (count : ℕ → ℕ) (words : List ℕ) → Feasible p count words
      → (m : ℕ) → load p words m ≡ 3 * load_by earlier_unit p words m
  pub reports : p.version ≤ 2 → (count : ℕ → ℕ) (words : List ℕ) → Feasible p count words
      → report_of p words ≡ threefold (report_by earlier_unit p words)

abbrev pub Units : Type 0
Units = (p : Plan) → Valid p → UnitLaws p
