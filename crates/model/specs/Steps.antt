-- Document 01, "Steps and rest".
use Rattle.std.specs.Prelude.{◌≡◌, Bool, true, false, not, cond, ◌&&◌, List, ℕ, zero, suc, ◌+◌, ◌*◌, ◌-◌, ◌^◌, ltb, eqb, set}
use Rattle.std.specs.Bool.{beq}
use Rattle.order.specs.Sum.{sum}
use Rattle.order.specs.Search.{first_up}
use Rattle.model.specs.Plan.{Plan, machines, rack_of, block_count}
use Rattle.model.specs.Placement.{held, word_of, used, is_feasible, load}

-- A step, or none. Of a relocation block i passes from machine m to machine n, of an exchange also block j from n to m. The first argument
-- says whether m and n lie in different racks; the others are m, n, i and, of an exchange, j, in the order of steps.
pub data Step : Type 0 where
  none : Step
  relocate : Bool → ℕ → ℕ → ℕ → Step
  exchange : Bool → ℕ → ℕ → ℕ → ℕ → Step

-- The four kinds as the document writes them: Move(m, i, n), Swap(m, i, n, j), RackMove(m, i, n), RackSwap(m, i, n, j).
abbrev pub Move : ℕ → ℕ → ℕ → Step
Move m i n = relocate false m n i

abbrev pub Swap : ℕ → ℕ → ℕ → ℕ → Step
Swap m i n j = exchange false m n i j

abbrev pub RackMove : ℕ → ℕ → ℕ → Step
RackMove m i n = relocate true m n i

abbrev pub RackSwap : ℕ → ℕ → ℕ → ℕ → Step
RackSwap m i n j = exchange true m n i j

-- A word with the copy on m, which it has, on n instead, which it has not.
unfoldable pub shifted : ℕ → ℕ → ℕ → ℕ
shifted word m n = word + 2 ^ n - 2 ^ m

-- The placement after the step.
unfoldable pub after_move : List ℕ → ℕ → ℕ → ℕ → List ℕ
after_move words m n i = set words i (shifted (word_of words i) m n)

unfoldable pub after_swap : List ℕ → ℕ → ℕ → ℕ → ℕ → List ℕ
after_swap words m n i j = after_move (after_move words m n i) n m j

unfoldable pub after : List ℕ → Step → List ℕ
after words none = words
after words (relocate racks m n i) = after_move words m n i
after words (exchange racks m n i j) = after_swap words m n i j

-- A step must leave a lawful placement, and both machines' loads afterwards must be strictly below Lm.
unfoldable pub improves : Plan → List ℕ → List ℕ → ℕ → ℕ → Bool
improves p words later m n =
    is_feasible p later && ltb (load p later m) (load p words m) && ltb (load p later n) (load p words m)

abbrev pub holds : List ℕ → ℕ → ℕ → Bool
holds words m i = eqb (held words m i) 1

-- Whether m and n lie in different racks.
abbrev pub across_racks : Plan → ℕ → ℕ → Bool
across_racks p m n = not (eqb (rack_of p m) (rack_of p n))

-- Move(m, i, n): m holds i, n does not and holds fewer than C copies.
unfoldable pub can_move : Plan → List ℕ → ℕ → ℕ → ℕ → Bool
can_move p words m n i =
    holds words m i && not (holds words n i) && ltb (used p words n) p.capacity
    && improves p words (after_move words m n i) m n

-- Swap(m, i, n, j): m holds i and not j, n holds j and not i.
unfoldable pub can_swap : Plan → List ℕ → ℕ → ℕ → ℕ → ℕ → Bool
can_swap p words m n i j =
    holds words m i && not (holds words m j) && holds words n j && not (holds words n i)
    && improves p words (after_swap words m n i j) m n

-- The first step of a kind by m, n, i, j, each lowest first; `racks` says whether m and n lie in different racks.
abbrev pub is_step : Step → Bool
is_step none = false
is_step (relocate racks m n i) = true
is_step (exchange racks m n i j) = true

abbrev pub first : ℕ → (ℕ → Step) → Step
first n f = first_up is_step none f n

unfoldable pub routes : Plan → Bool → (ℕ → ℕ → Step) → Step
routes p racks f =
    first (machines p) (λ m. first (machines p) (λ n. cond (beq racks (across_racks p m n)) (f m n) none))

unfoldable pub next_move : Plan → List ℕ → Bool → Step
next_move p words racks =
    routes p racks (λ m n. first (block_count p) (λ i. cond (can_move p words m n i) (relocate racks m n i) none))

unfoldable pub next_swap : Plan → List ℕ → Bool → Step
next_swap p words racks =
    routes p racks
    (λ m n.
    first (block_count p)
    (λ i. first (block_count p) (λ j. cond (can_swap p words m n i j) (exchange racks m n i j) none)))

-- The first of two steps.
abbrev pub or_step : Step → Step → Step
or_step none later = later
or_step (relocate racks m n i) later = relocate racks m n i
or_step (exchange racks m n i j) later = exchange racks m n i j

-- The next step: the first by kind (Move, Swap, RackMove, RackSwap). At rest (a local optimum) exactly if there is none.
unfoldable pub next_step : Plan → List ℕ → Step
next_step p words =
    or_step (next_move p words false)
    (or_step (next_swap p words false)
    (or_step (next_move p words true)
    (next_swap p words true)))

abbrev pub AtRest : Plan → List ℕ → Type 0
AtRest p words = next_step p words ≡ none

-- A run: next steps until rest or until the step limit is used. `rested` is `rest`; otherwise the answer is `spent`.
pub record Run : Type 0 where
  pub rested : Bool
  pub steps : ℕ
  pub words : List ℕ

unfoldable pub run : Plan → ℕ → List ℕ → Run
run p zero words = record { rested = not (is_step (next_step p words)); steps = 0; words = words }
run p (suc limit) words =
    let next = next_step p words in
    let later = run p limit (after words next) in
    let stepped : Run = record { rested = later.rested; steps = suc later.steps; words = later.words } in
    cond (is_step next) stepped (record { rested = true; steps = 0; words = words })

-- The sum of the squared loads, which every step lowers.
unfoldable pub potential : Plan → List ℕ → ℕ
potential p words = sum (machines p) (λ m. load p words m * load p words m)
