-- A call on a placement sees its words through the first B of them: on words that begin with B of them it does what it does on these alone,
-- and leaves the others.
-- Assumes nothing.
use mathlib.Core.Path.{◌≡◌, refl, ap, ap₂, sym, fun_ext, ◌∙◌}
use mathlib.Core.Bool.{Bool, true, false, cond, ◌&&◌}
use mathlib.Core.List.{List, [], ◌++◌}
use mathlib.Core.Logic.{inl, inr}
use Prim.Native.Nat.{ℕ, zero, suc, ◌+◌, ◌<◌, ◌≤◌, ◌^◌}
use native.Mathlib.Decide.{dec_le}
use native.Mathlib.Nat.{le_refl}
use native.Mathlib.Omega.{arith}
use lib.Dec.{leb, ltb, eqb}
use lib.ListN.{length, set, take, drop, length-append, length-take, take-append-drop, get_or-append}
use lib.Seq.{length-take-le, take_all, set-append_left, take_at, drop_at}
use Rattle.order.specs.Search.{first_up}
use Rattle.order.proofs.Booleans.{bool_cases}
use Rattle.order.proofs.Sums.{sum-cong}
use Rattle.order.proofs.Extremes.{allb-cong, largest-cong}
use Rattle.model.specs.Plan.{Plan, machines, block_count, block_of, is_paired, upper}
use Rattle.model.specs.Refusal.{judge, accepted}
use Rattle.model.specs.Replication.{copy_limit, chosen}
use Rattle.model.specs.Placement.{bit, word_of, replicas, domains_used, count_of, used, all_within, all_spread, all_fit, kept_apart, all_apart, counts_feasible, is_feasible, share_of, load, max_load_of, min_load_of, total_load_of, max_share}
use Rattle.model.specs.Steps.{Step, none, relocate, exchange, shifted, after_move, after_swap, after, improves, can_move, can_swap, is_step, first, routes, next_move, next_swap, next_step, Run, run}
use Rattle.model.specs.Calls.{Outcome, unless, on_plan, all_counted, placement_refusal, on_placement, report_of, check_call, report_call, step_call, run_call}
use Rattle.theory.specs.Refusal.{Shaped}
use Rattle.theory.specs.Steps.{Admissible}
use Rattle.theory.proofs.Refusal.{accepted-laws, check12-short, check12-enough}
use Rattle.theory.proofs.Calls.{unless-some}
use Rattle.theory.proofs.Steps.{after_move-length}
use Rattle.theory.proofs.StepsNext.{is_step-false, next_step-admissible}
use Rattle.theorems.specs.Unread.{FirstAlone, BeyondUnread}
use Rattle.theorems.proofs.Agreement.{Agree, agree-share, agree-used, agree-load, agree-partner}

-- ── The tests of a placement ─────────────────────────────────────────────────────────────────────
module _ (p : Plan) (shaped : Shaped p) (v w : List ℕ) (same : Agree p v w) where
  within-agrees : all_within p v ≡ all_within p w
  unfolding all_within
  within-agrees = allb-cong (block_count p) _ _ (λ i l. ap (λ (x : ℕ). ltb x (2 ^ machines p)) (same i l))

  counted-agrees : all_counted p v ≡ all_counted p w
  unfolding all_counted
  counted-agrees = allb-cong (block_count p) _ _ (λ i l. ap (λ (x : ℕ). eqb (replicas p x) (chosen p i)) (same i l))

  spread-agrees : all_spread p v ≡ all_spread p w
  unfolding all_spread
  spread-agrees = allb-cong (block_count p) _ _ (λ i l. ap (λ (x : ℕ). leb (block_of p i).min_domains (domains_used p x)) (same i l))

  fit-agrees : all_fit p v ≡ all_fit p w
  unfolding all_fit
  fit-agrees = allb-cong (machines p) _ _ (λ m l. ap (λ (n : ℕ). leb n p.capacity) (agree-used p shaped v w same m))

  apart-agrees : all_apart p v ≡ all_apart p w
  unfolding all_apart kept_apart
  apart-agrees = allb-cong (block_count p) _ _ (λ i l. go i l (is_paired p i) refl)
    where
      go : (i : ℕ) → i < block_count p → (b : Bool) → is_paired p i ≡ b → cond b (kept_apart p v i) true ≡ cond b (kept_apart p w i) true
      go i l true paired =
          allb-cong (machines p) _ _
          (λ m ml.
          ap₂ (λ (x y : ℕ). leb (bit x m + bit y m) 1) (same i l) (agree-partner p shaped v w same i l paired))
      go i l false paired = refl

  counts-agree : counts_feasible p (count_of p v) ≡ counts_feasible p (count_of p w)
  unfolding counts_feasible
  counts-agree =
      ap₂ ◌&&◌
      (allb-cong (block_count p) _ _
      (λ i l. ap (λ (x : ℕ). leb (block_of p i).min_replicas (replicas p x) && leb (replicas p x) (upper p i)) (same i l)))
      (ap (λ (n : ℕ). leb n (copy_limit p)) (sum-cong (block_count p) _ _ (λ i l. ap (replicas p) (same i l))))

  feasible-agrees : is_feasible p v ≡ is_feasible p w
  unfolding is_feasible
  feasible-agrees = rw (counts-agree, within-agrees, spread-agrees, fit-agrees, apart-agrees)

  refusal-agrees : block_count p ≤ length v → block_count p ≤ length w → placement_refusal v p ≡ placement_refusal w p
  unfolding placement_refusal
  refusal-agrees vl wl =
      rw (
        check12-enough (length v) (block_count p) _ vl,
        check12-enough (length w) (block_count p) _ wl,
        within-agrees,
        counted-agrees,
        spread-agrees,
        fit-agrees,
        apart-agrees,
      )

  report-agrees : report_of p v ≡ report_of p w
  unfolding report_of max_load_of min_load_of total_load_of max_share
  report-agrees =
      let loads : load p v ≡ load p w = fun_ext (agree-load p shaped v w same) in
      let shares = largest-cong (block_count p) (share_of p v) (share_of p w) (agree-share p shaped v w same) in
      rw (loads, shares)

-- ── Steps ────────────────────────────────────────────────────────────────────────────────────────
-- a search looks at the indices below its bound alone
first_cong : (n : ℕ) (f g : ℕ → Step) → ((i : ℕ) → i < n → f i ≡ g i) → first n f ≡ first n g
unfolding first_up
first_cong zero f g e = refl
first_cong (suc n) f g e = rw (first_cong n f g (λ i l. e i (omega arith)), e n (le_refl (suc n)))

module _ (p : Plan) (shaped : Shaped p) (rest : List ℕ) where
  -- B words, with others behind them
  agree-front : (words : List ℕ) → length words ≡ block_count p → Agree p (words ++ rest) words
  agree-front words sized i l = get_or-append words rest 0 i (omega arith)

  load-front : (words : List ℕ) → length words ≡ block_count p → (m : ℕ) → load p (words ++ rest) m ≡ load p words m
  load-front words sized = agree-load p shaped (words ++ rest) words (agree-front words sized)

  used-front : (words : List ℕ) → length words ≡ block_count p → (m : ℕ) → used p (words ++ rest) m ≡ used p words m
  used-front words sized = agree-used p shaped (words ++ rest) words (agree-front words sized)

  feasible-front : (words : List ℕ) → length words ≡ block_count p → is_feasible p (words ++ rest) ≡ is_feasible p words
  feasible-front words sized = feasible-agrees p shaped (words ++ rest) words (agree-front words sized)

  after_move-front : (words : List ℕ) → length words ≡ block_count p → (m n i : ℕ) → i < block_count p
      → after_move (words ++ rest) m n i ≡ after_move words m n i ++ rest
  unfolding after_move
  after_move-front words sized m n i l =
      ap (λ (x : ℕ). set (words ++ rest) i (shifted x m n)) (agree-front words sized i l)
      ∙ set-append_left words rest i (shifted (word_of words i) m n) (omega arith)

  after_move-sized : (words : List ℕ) → length words ≡ block_count p → (m n i : ℕ) → length (after_move words m n i) ≡ block_count p
  after_move-sized words sized m n i = after_move-length words m n i ∙ sized

  after_swap-front : (words : List ℕ) → length words ≡ block_count p → (m n i j : ℕ) → i < block_count p → j < block_count p
      → after_swap (words ++ rest) m n i j ≡ after_swap words m n i j ++ rest
  unfolding after_swap
  after_swap-front words sized m n i j il jl =
      ap (λ (s : List ℕ). after_move s n m j) (after_move-front words sized m n i il)
      ∙ after_move-front (after_move words m n i) (after_move-sized words sized m n i) n m j jl

  after_swap-sized : (words : List ℕ) → length words ≡ block_count p → (m n i j : ℕ) → length (after_swap words m n i j) ≡ block_count p
  unfolding after_swap
  after_swap-sized words sized m n i j = after_move-sized (after_move words m n i) (after_move-sized words sized m n i) n m j

  module _ (words : List ℕ) (sized : length words ≡ block_count p) where
    improves-front : (front later : List ℕ) → front ≡ later ++ rest → length later ≡ block_count p → (m n : ℕ)
        → improves p (words ++ rest) front m n ≡ improves p words later m n
    unfolding improves
    improves-front front later is fits m n =
        rw (is, feasible-front later fits, load-front later fits m, load-front later fits n, load-front words sized m)

    can_move-front : (m n i : ℕ) → i < block_count p → can_move p (words ++ rest) m n i ≡ can_move p words m n i
    unfolding can_move
    can_move-front m n i l =
        rw (
          agree-front words sized i l,
          used-front words sized n,
          improves-front (after_move (words ++ rest) m n i) (after_move words m n i) (after_move-front words sized m n i l)
              (after_move-sized words sized m n i) m n,
        )

    can_swap-front : (m n i j : ℕ) → i < block_count p → j < block_count p
        → can_swap p (words ++ rest) m n i j ≡ can_swap p words m n i j
    unfolding can_swap
    can_swap-front m n i j il jl =
        rw (
          agree-front words sized i il,
          agree-front words sized j jl,
          improves-front (after_swap (words ++ rest) m n i j) (after_swap words m n i j) (after_swap-front words sized m n i j il jl)
              (after_swap-sized words sized m n i j) m n,
        )

    next_move-front : (racks : Bool) → next_move p (words ++ rest) racks ≡ next_move p words racks
    unfolding next_move
    next_move-front racks =
        ap (routes p racks)
        (fun_ext (λ m. fun_ext (λ n.
        first_cong (block_count p) _ _ (λ i l. ap (λ (b : Bool). cond b (relocate racks m n i) none) (can_move-front m n i l)))))

    next_swap-front : (racks : Bool) → next_swap p (words ++ rest) racks ≡ next_swap p words racks
    unfolding next_swap
    next_swap-front racks =
        ap (routes p racks)
        (fun_ext (λ m. fun_ext (λ n.
        first_cong (block_count p) _ _ (λ i il.
        first_cong (block_count p) _ _ (λ j jl. ap (λ (b : Bool). cond b (exchange racks m n i j) none) (can_swap-front m n i j il jl))))))

    next-front : next_step p (words ++ rest) ≡ next_step p words
    unfolding next_step
    next-front = rw (next_move-front false, next_swap-front false, next_move-front true, next_swap-front true)

    after_front : (s : Step) → Admissible p words s → after (words ++ rest) s ≡ after words s ++ rest
    unfolding after
    after_front none h = absurd h
    after_front (relocate racks m n i) h = after_move-front words sized m n i h.2
    after_front (exchange racks m n i j) h = after_swap-front words sized m n i j h.2 h.3

    after-sized : (s : Step) → length (after words s) ≡ block_count p
    unfolding after
    after-sized none = sized
    after-sized (relocate racks m n i) = after_move-sized words sized m n i
    after-sized (exchange racks m n i j) = after_swap-sized words sized m n i j

    stepped-front : after (words ++ rest) (next_step p words) ≡ after words (next_step p words) ++ rest
    unfolding after
    stepped-front = elim (bool_cases (is_step (next_step p words))) [
      | inl is ↦ after_front (next_step p words) (next_step-admissible p words is)
      | inr off ↦ rw (is_step-false (next_step p words) off)
    ]

  run-front : (limit : ℕ) (words : List ℕ) → length words ≡ block_count p
      → run p limit (words ++ rest)
      ≡ record { rested = (run p limit words).rested; steps = (run p limit words).steps; words = (run p limit words).words ++ rest }
  unfolding run
  run-front zero words sized = rw (next-front words sized)
  run-front (suc limit) words sized =
      let later = run-front limit (after words (next_step p words)) (after-sized words sized (next_step p words)) in
      rw (next-front words sized, stepped-front words sized, later) (go (is_step (next_step p words)))
    where
      ended : List ℕ → Run
      ended s = record { rested = true; steps = 0; words = s }

      more : Run → Run
      more r = record { rested = r.rested; steps = suc r.steps; words = r.words }

      beside-run : Run → Run
      beside-run r = record { rested = r.rested; steps = r.steps; words = r.words ++ rest }

      go : (b : Bool) → let later = run p limit (after words (next_step p words)) in
          cond b (more (beside-run later)) (ended (words ++ rest)) ≡ beside-run (cond b (more later) (ended words))
      go true = refl
      go false = refl

  run-sized : (limit : ℕ) (words : List ℕ) → length words ≡ block_count p → length (run p limit words).words ≡ block_count p
  unfolding run
  run-sized zero words sized = sized
  run-sized (suc limit) words sized =
      let later = run-sized limit (after words (next_step p words)) (after-sized words sized (next_step p words)) in
      elim (bool_cases (is_step (next_step p words))) [ inl is ↦ rw is later | inr off ↦ rw off sized ]

-- ── Calls ────────────────────────────────────────────────────────────────────────────────────────
-- An outcome with words behind its items.
abbrev beside : {A : Type 0} → Outcome A → List ℕ → Outcome A
beside out rest = record { answer = out.answer; items = out.items ++ rest }

-- two lists that agree up to a length, where one is shorter
take_short : (n : ℕ) (v w : List ℕ) → take n v ≡ take n w → length v < n → v ≡ w
take_short n v w e l =
    let lengths = sym (length-take n v) ∙ ap length e ∙ length-take n w in
    sym (take_all n v (omega arith)) ∙ e ∙ take_all n w (omega arith)

module _ {A : Type 0} (bytes : List ℕ) (p : Plan) (reads : judge bytes ≡ accepted p) (made : List ℕ → Plan → Outcome A)
    (front : (words rest : List ℕ) → length words ≡ block_count p → made (words ++ rest) p ≡ beside (made words p) rest)
    (sized : (words : List ℕ) → length words ≡ block_count p → length (made words p).items ≡ block_count p) where
  call : List ℕ → Outcome A
  call words = on_placement bytes words (made words)

  shaped : Shaped p
  shaped = (accepted-laws bytes p reads).valid.shaped

  call-is : (words : List ℕ) → call words ≡ unless (placement_refusal words p) words (made words p)
  unfolding call on_placement on_plan
  call-is words = rw reads

  call-front : (words rest : List ℕ) → length words ≡ block_count p → call (words ++ rest) ≡ beside (call words) rest
  unfolding unless
  call-front words rest fits =
      let longer = length-append words rest in
      let rows = refusal-agrees p shaped (words ++ rest) words (agree-front p shaped rest words fits) (omega arith) (omega arith) in
      call-is (words ++ rest)
      ∙ (rw (rows, front words rest fits) (go (placement_refusal words p)))
      ∙ ap (λ (out : Outcome A). beside out rest) (sym (call-is words))
    where
      go : (code : ℕ) → unless code (words ++ rest) (beside (made words p) rest) ≡ beside (unless code words (made words p)) rest
      go zero = refl
      go (suc code) = refl

  call-sized : (words : List ℕ) → length words ≡ block_count p → length (call words).items ≡ block_count p
  unfolding unless
  call-sized words fits = rw (call-is words) (go (placement_refusal words p))
    where
      go : (code : ℕ) → length (unless code words (made words p)).items ≡ block_count p
      go zero = sized words fits
      go (suc code) = fits

  -- with too few words a call is refused
  call-short : (words : List ℕ) → length words < block_count p → (call words).items ≡ words
  unfolding placement_refusal
  call-short words short =
      ap (λ (out : Outcome A). out.items)
      (call-is words ∙ unless-some words 12 _ (made words p) (check12-short (length words) (block_count p) _ short) (omega arith))

  module _ (words : List ℕ) (enough : block_count p ≤ length words) where
    take-sized : length (take (block_count p) words) ≡ block_count p
    take-sized = length-take-le (block_count p) words enough

    call-taken : call words ≡ beside (call (take (block_count p) words)) (drop (block_count p) words)
    call-taken =
        ap call (sym (take-append-drop (block_count p) words))
        ∙ call-front (take (block_count p) words) (drop (block_count p) words) take-sized

    call-answer : (call words).answer ≡ (call (take (block_count p) words)).answer
    call-answer = ap (λ (out : Outcome A). out.answer) call-taken

    call-first : take (block_count p) (call words).items ≡ (call (take (block_count p) words)).items
    call-first =
        ap (λ (out : Outcome A). take (block_count p) out.items) call-taken
        ∙ take_at (call (take (block_count p) words)).items (drop (block_count p) words) (block_count p) (call-sized _ take-sized)

    call-beyond : drop (block_count p) (call words).items ≡ drop (block_count p) words
    call-beyond =
        ap (λ (out : Outcome A). drop (block_count p) out.items) call-taken
        ∙ drop_at (call (take (block_count p) words)).items (drop (block_count p) words) (block_count p) (call-sized _ take-sized)

  -- the other buffer is as long, where one has B words
  take_long : (words other : List ℕ) → take (block_count p) words ≡ take (block_count p) other → block_count p ≤ length words
      → block_count p ≤ length other
  take_long words other e enough =
      let lengths = sym (take-sized words enough) ∙ ap length e ∙ length-take (block_count p) other in
      omega arith

  first_alone : FirstAlone (block_count p) call
  first_alone =
      record {
        answer-same = λ words other e. elim (dec_le (block_count p) (length words)) [
          | yes l ↦
              call-answer words l
              ∙ ap (λ (s : List ℕ). (call s).answer) e
              ∙ sym (call-answer other (take_long words other e l))
          | no l ↦ ap (λ (s : List ℕ). (call s).answer) (take_short (block_count p) words other e (omega arith))
        ];
        items-same = λ words other e. elim (dec_le (block_count p) (length words)) [
          | yes l ↦
              call-first words l
              ∙ ap (λ (s : List ℕ). (call s).items) e
              ∙ sym (call-first other (take_long words other e l))
          | no l ↦ ap (λ (s : List ℕ). take (block_count p) (call s).items) (take_short (block_count p) words other e (omega arith))
        ];
        beyond = λ words. elim (dec_le (block_count p) (length words)) [
          | yes l ↦ call-beyond words l
          | no l ↦ ap (drop (block_count p)) (call-short words (omega arith))
        ];
      }

pub beyond-unread : BeyondUnread
unfolding check_call report_call step_call run_call call
beyond-unread bytes p reads =
    let shape = (accepted-laws bytes p reads).valid.shaped in
    record {
      check = first_alone bytes p reads _ (λ words rest fits. refl) (λ words fits. fits);
      report =
          first_alone bytes p reads _
          (λ words rest fits. rw (report-agrees p shape (words ++ rest) words (agree-front p shape rest words fits)))
          (λ words fits. fits);
      step =
          first_alone bytes p reads _
          (λ words rest fits. rw (next-front p shape rest words fits, stepped-front p shape rest words fits))
          (λ words fits. after-sized p shape [] words fits (next_step p words));
      run = λ limit.
          first_alone bytes p reads _
          (λ words rest fits. rw (run-front p shape rest limit words fits))
          (λ words fits. run-sized p shape [] limit words fits);
    }
