-- Laws of the next step and of runs, the third part of Steps: the next step is the first lawful one in the order of steps, or none
-- where there is none; a run takes next steps, at most its step limit, keeps the placement feasible, and says whether it ended at
-- rest.
-- Assumes nothing.
use mathlib.Core.Path.{◌≡◌, refl, ap, ap₂, sym, ◌∙◌}
use mathlib.Core.Bool.{Bool, true, false, not, cond, beq}
use mathlib.Core.List.{List, [], ◌∷◌}
use mathlib.Core.Logic.{◌⊎◌, inl, inr, ◌↔◌}
use Prim.Native.Nat.{ℕ, zero, suc, ◌<◌}
use native.Mathlib.Decide.{dec_lt}
use native.Mathlib.Omega.{arith}
use borrow.Author.Tests.{not-true, not-false}
use lib.Dec.{lit<}
use lib.ListN.{drop}
use Rattle.order.specs.Search.{first_up}
use Rattle.order.proofs.Booleans.{no-contradiction, bool_cases, beq-iff}
use Rattle.order.proofs.Searches.{none_below, first-index}
use Rattle.model.specs.Plan.{Plan, machines, block_count}
use Rattle.model.specs.Placement.{Feasible}
use Rattle.model.specs.Steps.{Step, none, relocate, exchange, after, across_racks, can_move, can_swap, is_step, first, routes, next_move, next_swap, or_step, next_step, run}
use Rattle.theory.specs.Steps.{Admissible, step_key, Precedes, NextStepLaws, NextSteps, Taken, none-taken, one_more, RunLaws, Runs}
use Rattle.theory.proofs.Steps.{after-past}
use Rattle.theory.proofs.StepsLocal.{after-feasible}

-- ── is_step ───────────────────────────────────────────────────────────────────────────────────────
pub is_step-false : (s : Step) → is_step s ≡ false → s ≡ none
is_step-false none e = refl
is_step-false (relocate racks m n i) e = no-contradiction e
is_step-false (exchange racks m n i j) e = no-contradiction e

-- ── Precedes ─────────────────────────────────────────────────────────────────────────────────────
precedes-asym : (a b : List ℕ) → Precedes a b → Precedes b a → ⊥
unfolding Precedes
precedes-asym [] b h k = h
precedes-asym (x ∷ a) [] h k = h
precedes-asym (x ∷ a) (y ∷ b) (inl l) (inl m) = omega arith
precedes-asym (x ∷ a) (y ∷ b) (inl l) (inr (e, k)) = omega arith
precedes-asym (x ∷ a) (y ∷ b) (inr (e, h)) (inl m) = omega arith
precedes-asym (x ∷ a) (y ∷ b) (inr (e, h)) (inr (f, k)) = precedes-asym a b h k

-- ── first ────────────────────────────────────────────────────────────────────────────────────────
-- What a search finds among steps S that have keys: the one with the first key, or none where there is none.
abbrev Finds : (List ℕ → Step → Type 0) → Step → Type 0
Finds S r =
    ((r ≡ none) × ((a : List ℕ) (s : Step) → S a s → ⊥))
    ⊎ ((a : List ℕ) × S a r × (is_step r ≡ true) × ((b : List ℕ) (s : Step) → S b s → (r ≡ s) ⊎ Precedes a b))

-- The steps of S 0, S 1, .., S (n - 1), each with its index before its key.
abbrev Under : ℕ → (ℕ → List ℕ → Step → Type 0) → List ℕ → Step → Type 0
Under n S a s = (i : ℕ) × (b : List ℕ) × (a ≡ i ∷ b) × (i < n) × S i b s

-- the same steps with the same keys
finds-same : (S T : List ℕ → Step → Type 0) (r : Step) → ((a : List ℕ) (s : Step) → S a s ↔ T a s) → Finds S r → Finds T r
finds-same S T r each (inl (e, empty)) = inl (e, λ a s h. empty a s ((each a s).1 h))
finds-same S T r each (inr (a, h, is, least)) = inr (a, (each a r).0 h, is, λ b s t. least b s ((each b s).1 t))

-- one step alone
finds-one : (s : Step) → is_step s ≡ true → Finds (λ a t. (a ≡ []) × (t ≡ s)) s
finds-one s is = inr ([], (refl, refl), is, λ b t h. inl (sym h.1))

-- under a test
finds-if : (t : Bool) (S : List ℕ → Step → Type 0) (s : Step) → Finds S s → Finds (λ a r. (t ≡ true) × S a r) (cond t s none)
finds-if true S s h = finds-same S (λ a r. (true ≡ true) × S a r) s (λ a r. (λ x. (refl, x), λ x. x.1)) h
finds-if false S s h = inl (refl, λ a r x. no-contradiction (sym x.0))

-- one index after the other: where the search at index k finds a step and those before it find none, the key begins with k
finds-first : (n : ℕ) (f : ℕ → Step) (S : ℕ → List ℕ → Step → Type 0) → ((i : ℕ) → i < n → Finds (S i) (f i))
    → Finds (Under n S) (first n f)
unfolding Precedes
finds-first n f S each = go (bool_cases (is_step (first n f)))
  where
    quiet : (i : ℕ) → i < n → is_step (f i) ≡ false → (b : List ℕ) (s : Step) → S i b s → ⊥
    quiet i l off b s h = elim (each i l) [
      | inl (e, empty) ↦ empty b s h
      | inr (a, found, is, least) ↦ no-contradiction (sym is ∙ off)
    ]

    at : (k : ℕ) → k < n → is_step (f k) ≡ true → ((i : ℕ) → i < k → is_step (f i) ≡ false) → Finds (Under n S) (f k)
    at k l is before = elim (each k l) [
      | inl (e, empty) ↦ no-contradiction (sym (sym (ap is_step e) ∙ is))
      | inr (a, found, is, least) ↦ inr (k ∷ a, (k, a, refl, l, found), is, λ b s h. later a least b s h)
    ]
      where
        later : (a : List ℕ) → ((b : List ℕ) (s : Step) → S k b s → (f k ≡ s) ⊎ Precedes a b)
            → (b : List ℕ) (s : Step) → Under n S b s → (f k ≡ s) ⊎ Precedes (k ∷ a) b
        later a least b s (i, c, e, il, h) = elim (dec_lt i k) [
          | yes m ↦ absurd (quiet i il (before i m) c s h)
          | no m ↦ elim (dec_lt k i) [
            | yes g ↦ inr (rw e (inl g))
            | no g ↦
                let same : i ≡ k = omega arith in
                elim (least c s (rw same at h)) [ inl q ↦ inl q | inr q ↦ inr (rw e (inr (sym same, q))) ]
          ]
        ]

    go : (is_step (first n f) ≡ true) ⊎ (is_step (first n f) ≡ false) → Finds (Under n S) (first n f)
    go (inl e) =
        let found = first-index is_step none refl f n e in
        rw found.2 (at found.0 found.1 found.3 found.4)
    go (inr e) =
        inl (is_step-false (first n f) e, λ a s h. quiet h.0 h.3 (none_below is_step none refl f n e h.0 h.3) h.1 s h.4)

-- ── next_step ─────────────────────────────────────────────────────────────────────────────────────
-- The four kinds one after the other.
four : Step → Step → Step → Step → ℕ → Step
four a b c d zero = a
four a b c d (suc zero) = b
four a b c d (suc (suc zero)) = c
four a b c d (suc (suc (suc k))) = d

four-first : (a b c d : Step) → or_step a (or_step b (or_step c d)) ≡ first 4 (four a b c d)
unfolding four first_up
four-first (relocate racks m n i) b c d = refl
four-first (exchange racks m n i j) b c d = refl
four-first none (relocate racks m n i) c d = refl
four-first none (exchange racks m n i j) c d = refl
four-first none none (relocate racks m n i) d = refl
four-first none none (exchange racks m n i j) d = refl
four-first none none none (relocate racks m n i) = refl
four-first none none none (exchange racks m n i j) = refl
four-first none none none none = refl

module _ (p : Plan) (words : List ℕ) where
  -- The routes of a kind.
  abbrev Routes : Bool → (ℕ → ℕ → List ℕ → Step → Type 0) → List ℕ → Step → Type 0
  Routes racks S = Under (machines p) (λ m. Under (machines p) (λ n a s. (beq racks (across_racks p m n) ≡ true) × S m n a s))

  finds-routes : (racks : Bool) (f : ℕ → ℕ → Step) (S : ℕ → ℕ → List ℕ → Step → Type 0) → ((m n : ℕ) → Finds (S m n) (f m n))
      → Finds (Routes racks S) (routes p racks f)
  unfolding routes
  finds-routes racks f S each =
      finds-first (machines p) _ (λ m. Under (machines p) (λ n a s. (beq racks (across_racks p m n) ≡ true) × S m n a s)) (λ m ml.
      finds-first (machines p) _ (λ n a s. (beq racks (across_racks p m n) ≡ true) × S m n a s) (λ n nl.
      finds-if (beq racks (across_racks p m n)) (S m n) (f m n) (each m n)))

  -- The Moves and the Swaps between m and n.
  abbrev Moves : Bool → ℕ → ℕ → List ℕ → Step → Type 0
  Moves racks m n = Under (block_count p) (λ i a s. (can_move p words m n i ≡ true) × ((a ≡ []) × (s ≡ relocate racks m n i)))

  abbrev Swaps : Bool → ℕ → ℕ → List ℕ → Step → Type 0
  Swaps racks m n =
      Under (block_count p) (λ i.
      Under (block_count p) (λ j a s. (can_swap p words m n i j ≡ true) × ((a ≡ []) × (s ≡ exchange racks m n i j))))

  finds-move : (racks : Bool) → Finds (Routes racks (Moves racks)) (next_move p words racks)
  unfolding next_move
  finds-move racks =
      finds-routes racks _ (Moves racks) (λ m n.
      finds-first (block_count p) _ (λ i a s. (can_move p words m n i ≡ true) × ((a ≡ []) × (s ≡ relocate racks m n i))) (λ i il.
      finds-if (can_move p words m n i) _ (relocate racks m n i) (finds-one (relocate racks m n i) refl)))

  finds-swap : (racks : Bool) → Finds (Routes racks (Swaps racks)) (next_swap p words racks)
  unfolding next_swap
  finds-swap racks =
      finds-routes racks _ (Swaps racks) (λ m n.
      finds-first (block_count p) _ (λ i.
      Under (block_count p) (λ j a s. (can_swap p words m n i j ≡ true) × ((a ≡ []) × (s ≡ exchange racks m n i j)))) (λ i il.
      finds-first (block_count p) _ (λ j a s. (can_swap p words m n i j ≡ true) × ((a ≡ []) × (s ≡ exchange racks m n i j))) (λ j jl.
      finds-if (can_swap p words m n i j) _ (exchange racks m n i j) (finds-one (exchange racks m n i j) refl))))

  -- All steps of kind k.
  abbrev Kind : ℕ → List ℕ → Step → Type 0
  Kind zero = Routes false (Moves false)
  Kind (suc zero) = Routes false (Swaps false)
  Kind (suc (suc zero)) = Routes true (Moves true)
  Kind (suc (suc (suc k))) = Routes true (Swaps true)

  finds-next : Finds (Under 4 Kind) (next_step p words)
  unfolding next_step four
  finds-next =
      rw (four-first (next_move p words false) (next_swap p words false) (next_move p words true) (next_swap p words true))
      (finds-first 4 (four (next_move p words false) (next_swap p words false) (next_move p words true) (next_swap p words true)) Kind each)
    where
      each : (k : ℕ) → k < 4
          → Finds (Kind k) (four (next_move p words false) (next_swap p words false) (next_move p words true) (next_swap p words true) k)
      each zero l = finds-move false
      each (suc zero) l = finds-swap false
      each (suc (suc zero)) l = finds-move true
      each (suc (suc (suc k))) l = finds-swap true

  -- the steps that are looked through are the lawful ones, by their keys
  admissible-move : (racks : Bool) (a : List ℕ) (s : Step) → Routes racks (Moves racks) a s
      → (m : ℕ) × (n : ℕ) × (i : ℕ) × (a ≡ m ∷ n ∷ i ∷ []) × (s ≡ relocate racks m n i) × Admissible p words (relocate racks m n i)
  admissible-move racks a s (m, b, e, ml, (n, c, f, nl, (t, (i, d, g, il, (can, (h, is)))))) =
      (m, n, i, (rw (e, f, g, h)), is, (ml, nl, il, can, (beq-iff racks (across_racks p m n)).0 t))

  admissible-swap : (racks : Bool) (a : List ℕ) (s : Step) → Routes racks (Swaps racks) a s
      → (m : ℕ) × (n : ℕ) × (i : ℕ) × (j : ℕ) × (a ≡ m ∷ n ∷ i ∷ j ∷ []) × (s ≡ exchange racks m n i j) × Admissible p words (exchange racks m n i j)
  admissible-swap racks a s (m, b, e, ml, (n, c, f, nl, (t, (i, d, g, il, (j, k, o, jl, (can, (h, is))))))) =
      (m, n, i, j, (rw (e, f, g, o, h)), is, (ml, nl, il, jl, can, (beq-iff racks (across_racks p m n)).0 t))

  move-admissible : (racks : Bool) (m n i : ℕ) → Admissible p words (relocate racks m n i)
      → Routes racks (Moves racks) (m ∷ n ∷ i ∷ []) (relocate racks m n i)
  move-admissible racks m n i (ml, nl, il, can, across) =
      (m, _, refl, ml, (n, _, refl, nl, ((beq-iff racks (across_racks p m n)).1 across, (i, _, refl, il, (can, (refl, refl))))))

  swap-admissible : (racks : Bool) (m n i j : ℕ) → Admissible p words (exchange racks m n i j)
      → Routes racks (Swaps racks) (m ∷ n ∷ i ∷ j ∷ []) (exchange racks m n i j)
  swap-admissible racks m n i j (ml, nl, il, jl, can, across) =
      (m, _, refl, ml, (n, _, refl, nl, ((beq-iff racks (across_racks p m n)).1 across, (i, _, refl, il, (j, _, refl, jl, (can, (refl, refl)))))))

  kinds-admissible : (a : List ℕ) (s : Step) → Under 4 Kind a s ↔ ((a ≡ step_key s) × Admissible p words s)
  unfolding step_key
  kinds-admissible a s = (λ h. there h.0 h.1 h.2 h.3 h.4, λ h. rw h.0 (back s h.1))
    where
      told : (t : Step) → a ≡ step_key t → s ≡ t → Admissible p words t → (a ≡ step_key s) × Admissible p words s
      told t e is h = rw is (e, h)

      there : (k : ℕ) (b : List ℕ) → a ≡ k ∷ b → k < 4 → Kind k b s → (a ≡ step_key s) × Admissible p words s
      there zero b e l h =
          let z = admissible-move false b s h in
          told (relocate false z.0 z.1 z.2) (e ∙ ap (λ (c : List ℕ). 0 ∷ c) z.3) z.4 z.5
      there (suc zero) b e l h =
          let z = admissible-swap false b s h in
          told (exchange false z.0 z.1 z.2 z.3) (e ∙ ap (λ (c : List ℕ). 1 ∷ c) z.4) z.5 z.6
      there (suc (suc zero)) b e l h =
          let z = admissible-move true b s h in
          told (relocate true z.0 z.1 z.2) (e ∙ ap (λ (c : List ℕ). 2 ∷ c) z.3) z.4 z.5
      there (suc (suc (suc k))) b e l h =
          let z = admissible-swap true b s h in
          let last : suc (suc (suc k)) ≡ 3 = omega arith in
          told (exchange true z.0 z.1 z.2 z.3) (e ∙ ap₂ ◌∷◌ last z.4) z.5 z.6

      back : (s : Step) → Admissible p words s → Under 4 Kind (step_key s) s
      back none h = absurd h
      back (relocate false m n i) h = (0, _, refl, lit< tt, move-admissible false m n i h)
      back (exchange false m n i j) h = (1, _, refl, lit< tt, swap-admissible false m n i j h)
      back (relocate true m n i) h = (2, _, refl, lit< tt, move-admissible true m n i h)
      back (exchange true m n i j) h = (3, _, refl, lit< tt, swap-admissible true m n i j h)

-- A search over an index finds, at the first index where there is anything to find, what is first there; so nested searches find
-- the step whose numbers are first, the outermost deciding before the inner ones. The kinds are the outermost index, then m, n, i
-- and j.
pub next-steps : NextSteps
next-steps p words =
    go
    (finds-same (Under 4 (Kind p words)) (λ a s. (a ≡ step_key s) × Admissible p words s) (next_step p words) (kinds-admissible p words)
    (finds-next p words))
  where
    go : Finds (λ a s. (a ≡ step_key s) × Admissible p words s) (next_step p words) → NextStepLaws p words
    go (inl (e, empty)) =
        record {
          admissible = inl e;
          first = λ s h. absurd (empty (step_key s) s (refl, h));
          none_before = λ s h before. empty (step_key s) s (refl, h);
          rest = (λ q s h. empty (step_key s) s (refl, h), λ h. e);
        }
    go (inr (a, (e, h), is, least)) =
        let first : (s : Step) → Admissible p words s → (next_step p words ≡ s) ⊎ Precedes (step_key (next_step p words)) (step_key s) =
        λ s l. rw e at (least (step_key s) s (refl, l))
        in
        record {
          admissible = inr h;
          first = first;
          none_before = λ s l before. elim (first s l) [
            | inl same ↦ precedes-asym (step_key s) (step_key s) (rw same at before) (rw same at before)
            | inr later ↦ precedes-asym (step_key s) (step_key (next_step p words)) before later
          ];
          rest = (λ q. no-contradiction (sym is ∙ ap is_step q), λ none-admissible. absurd (none-admissible (next_step p words) h));
        }

pub next_step-admissible : (p : Plan) (words : List ℕ) → is_step (next_step p words) ≡ true → Admissible p words (next_step p words)
next_step-admissible p words is = elim (next-steps p words).admissible [
  | inl e ↦ no-contradiction (sym is ∙ ap is_step e)
  | inr h ↦ h
]

pub next_step-feasible : (p : Plan) (count : ℕ → ℕ) (words : List ℕ) → Feasible p count words
    → Feasible p count (after words (next_step p words))
unfolding after
next_step-feasible p count words feasible = elim (next-steps p words).admissible [
  | inl e ↦ rw e feasible
  | inr h ↦ after-feasible p count words feasible (next_step p words) h
]

-- a next step is one that is taken, or there is none
pub next_step-taken : (p : Plan) (words : List ℕ) → (n : ℕ) × Taken p words n (after words (next_step p words))
unfolding after
next_step-taken p words = go (bool_cases (is_step (next_step p words)))
  where
    go : (is_step (next_step p words) ≡ true) ⊎ (is_step (next_step p words) ≡ false) → (n : ℕ) × Taken p words n (after words (next_step p words))
    go (inl e) = (1, one_more e none-taken)
    go (inr e) = (0, rw (is_step-false (next_step p words) e) none-taken)

-- steps taken change no word past the blocks, and keep the placement feasible
pub taken-past : (p : Plan) {words later : List ℕ} {n : ℕ} → Taken p words n later
    → drop (block_count p) later ≡ drop (block_count p) words
taken-past p none-taken = refl
taken-past p (one_more {words} e more) = taken-past p more ∙ after-past p words (next_step p words) (next_step-admissible p words e)

pub taken-feasible : (p : Plan) (count : ℕ → ℕ) {words later : List ℕ} {n : ℕ} → Taken p words n later
    → Feasible p count words → Feasible p count later
taken-feasible p count none-taken f = f
taken-feasible p count (one_more {words} e more) f = taken-feasible p count more (next_step-feasible p count words f)

-- ── run ──────────────────────────────────────────────────────────────────────────────────────────
-- one step at a time
module _ (p : Plan) (words : List ℕ) where
  pub run-zero : run p 0 words ≡ record { rested = not (is_step (next_step p words)); steps = 0; words = words }
  unfolding run
  run-zero = refl

  pub run_none : (limit : ℕ) → next_step p words ≡ none
      → run p limit words ≡ record { rested = true; steps = 0; words = words }
  unfolding run
  run_none zero e = rw e
  run_none (suc limit) e = rw e

  pub run-suc : (limit : ℕ) → is_step (next_step p words) ≡ true
      → run p (suc limit) words
      ≡ record {
        rested = (run p limit (after words (next_step p words))).rested;
        steps = suc (run p limit (after words (next_step p words))).steps;
        words = (run p limit (after words (next_step p words))).words;
      }
  unfolding run
  run-suc limit e = rw e

pub runs : Runs
runs p zero words =
    rw (run-zero p words)
    (record {
      within = omega arith;
      taken = none-taken;
      rest = λ e. is_step-false (next_step p words) (not-true _ e);
      spent = λ e. (refl, not-false _ e);
    })
runs p (suc limit) words =
    go (bool_cases (is_step (next_step p words))) (runs p limit (after words (next_step p words)))
  where
    go : (is_step (next_step p words) ≡ true) ⊎ (is_step (next_step p words) ≡ false)
        → RunLaws p limit (after words (next_step p words)) (run p limit (after words (next_step p words)))
        → RunLaws p (suc limit) words (run p (suc limit) words)
    go (inl e) later =
        let within = later.within in
        rw (run-suc p words limit e)
        (record {
          within = omega arith;
          taken = one_more e later.taken;
          rest = later.rest;
          spent = λ q. (ap suc (later.spent q).0, (later.spent q).1);
        })
    go (inr e) later =
        rw (run_none p words (suc limit) (is_step-false (next_step p words) e))
        (record {
          within = omega arith;
          taken = none-taken;
          rest = λ q. is_step-false (next_step p words) e;
          spent = λ q. no-contradiction q;
        })

pub run-feasible : (p : Plan) (count : ℕ → ℕ) (words : List ℕ) → Feasible p count words → (limit : ℕ)
    → Feasible p count (run p limit words).words
run-feasible p count words feasible limit = taken-feasible p count (runs p limit words).taken feasible
