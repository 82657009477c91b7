-- Document 01, "Steps and rest": a step told by its own machines and blocks, the order of steps, and runs of next steps.
use Rattle.std.specs.Prelude.{◌≡◌, true, false, List, [], ◌∷◌, ◌⊎◌, ◌↔◌, ℕ, suc, ◌+◌, ◌<◌, ◌≤◌}
use Rattle.model.specs.Plan.{Plan, machines, block_count, block_of, is_paired, partner}
use Rattle.model.specs.Placement.{word_of, held, domains_used, used, Feasible, share_of, load}
use Rattle.model.specs.Steps.{Step, none, relocate, exchange, shifted, after, across_racks, can_move, can_swap, is_step, next_step, AtRest, Run, run}
use Rattle.theory.specs.Refusal.{Shaped}

-- What the loads must satisfy for m to give the share `given` and get `back`: both loads end below that of m.
abbrev pub Lowers : Plan → List ℕ → ℕ → ℕ → ℕ → ℕ → Type 0
Lowers p words m n given back = (back < given) × (load p words n + given < load p words m + back)

-- Move(m, i, n), told by loads, copies and the block's word before it.
pub record LocalMove (p : Plan) (words : List ℕ) (m n i : ℕ) : Type 0 where
  pub on : held words m i ≡ 1
  pub off : held words n i ≡ 0
  pub room : used p words n < p.capacity
  pub lowers : Lowers p words m n (share_of p words i) 0
  pub spread : (block_of p i).min_domains ≤ domains_used p (shifted (word_of words i) m n)
  -- n does not hold its partner
  pub apart : is_paired p i ≡ true → held words n (partner p i) ≡ 0

-- Swap(m, i, n, j), likewise.
pub record LocalSwap (p : Plan) (words : List ℕ) (m n i j : ℕ) : Type 0 where
  pub i-on : held words m i ≡ 1
  pub i-off : held words n i ≡ 0
  pub j-on : held words n j ≡ 1
  pub j-off : held words m j ≡ 0
  pub lowers : Lowers p words m n (share_of p words i) (share_of p words j)
  pub i-spread : (block_of p i).min_domains ≤ domains_used p (shifted (word_of words i) m n)
  pub j-spread : (block_of p j).min_domains ≤ domains_used p (shifted (word_of words j) n m)
  -- n does not hold i's partner, nor m that of j, unless the two are each other's
  pub i-apart : is_paired p i ≡ true → (partner p i ≡ j → ⊥) → held words n (partner p i) ≡ 0
  pub j-apart : is_paired p j ≡ true → (partner p j ≡ i → ⊥) → held words m (partner p j) ≡ 0

-- From a lawful placement they hold exactly where the document's tests pass, which look at the placement afterwards.
abbrev pub CanMoveLocal : Type 0
CanMoveLocal =
    (p : Plan) → Shaped p → (count : ℕ → ℕ) (words : List ℕ) → Feasible p count words
    → (m n i : ℕ) → m < machines p → n < machines p → i < block_count p
    → (can_move p words m n i ≡ true) ↔ LocalMove p words m n i

abbrev pub CanSwapLocal : Type 0
CanSwapLocal =
    (p : Plan) → Shaped p → (count : ℕ → ℕ) (words : List ℕ) → Feasible p count words
    → (m n i j : ℕ) → m < machines p → n < machines p → i < block_count p → j < block_count p
    → (can_swap p words m n i j ≡ true) ↔ LocalSwap p words m n i j

-- An admissible step, one that the document allows: its machines and blocks are the plan's, it passes its test, and Move and Swap are
-- for one rack, RackMove and RackSwap for two.
abbrev pub Admissible : Plan → List ℕ → Step → Type 0
Admissible p words none = ⊥
Admissible p words (relocate racks m n i) =
    (m < machines p) × (n < machines p) × (i < block_count p) × (can_move p words m n i ≡ true) × (racks ≡ across_racks p m n)
Admissible p words (exchange racks m n i j) =
    (m < machines p) × (n < machines p) × (i < block_count p) × (j < block_count p) × (can_swap p words m n i j ≡ true)
    × (racks ≡ across_racks p m n)

-- The order of steps: by kind (Move, Swap, RackMove, RackSwap), then m, n, i, j, each lowest first.
unfoldable pub step_key : Step → List ℕ
step_key none = []
step_key (relocate false m n i) = 0 ∷ m ∷ n ∷ i ∷ []
step_key (exchange false m n i j) = 1 ∷ m ∷ n ∷ i ∷ j ∷ []
step_key (relocate true m n i) = 2 ∷ m ∷ n ∷ i ∷ []
step_key (exchange true m n i j) = 3 ∷ m ∷ n ∷ i ∷ j ∷ []

-- One key comes before another by the first number in which they differ.
unfoldable pub Precedes : List ℕ → List ℕ → Type 0
Precedes [] key = ⊥
Precedes (a ∷ rest) [] = ⊥
Precedes (a ∷ rest) (b ∷ others) = (a < b) ⊎ ((a ≡ b) × Precedes rest others)

-- The next step is the first lawful one.
pub record NextStepLaws (p : Plan) (words : List ℕ) : Type 0 where
  pub admissible : (next_step p words ≡ none) ⊎ Admissible p words (next_step p words)
  -- every other lawful step comes after it, and none before it
  pub first : (s : Step) → Admissible p words s → (next_step p words ≡ s) ⊎ Precedes (step_key (next_step p words)) (step_key s)
  pub none_before : (s : Step) → Admissible p words s → Precedes (step_key s) (step_key (next_step p words)) → ⊥
  -- it is at rest exactly if there is none
  pub rest : AtRest p words ↔ ((s : Step) → Admissible p words s → ⊥)

abbrev pub NextSteps : Type 0
NextSteps = (p : Plan) (words : List ℕ) → NextStepLaws p words

-- `Taken p first n last`: n next steps of the definition lead from `first` to `last`.
pub data Taken (p : Plan) : List ℕ → ℕ → List ℕ → Type 0 where
  none-taken : {words : List ℕ} → Taken p words 0 words
  one_more : {words later : List ℕ} {n : ℕ} → is_step (next_step p words) ≡ true
      → Taken p (after words (next_step p words)) n later → Taken p words (suc n) later

-- What a run with a step limit has done: `rested` says that no step is left; otherwise the limit is used and one is.
pub record RunLaws (p : Plan) (limit : ℕ) (words : List ℕ) (r : Run) : Type 0 where
  pub within : r.steps ≤ limit
  pub taken : Taken p words r.steps r.words
  pub rest : r.rested ≡ true → AtRest p r.words
  pub spent : r.rested ≡ false → (r.steps ≡ limit) × (is_step (next_step p r.words) ≡ true)

abbrev pub Runs : Type 0
Runs = (p : Plan) (limit : ℕ) (words : List ℕ) → RunLaws p limit words (run p limit words)
