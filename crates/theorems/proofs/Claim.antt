-- Demand 3: the claim about every list of calls, with the bounds at rest.
-- Assumes nothing.
use mathlib.Core.Path.{◌≡◌, refl, ap, sym, ◌∙◌}
use mathlib.Core.Bool.{true}
use mathlib.Core.List.{List, [], ◌∷◌, ◌++◌}
use mathlib.Core.Logic.{◌⊎◌, inl, inr}
use Prim.Native.Nat.{ℕ, zero, suc, ◌≤◌}
use native.Mathlib.Nat.{add-zero}
use native.Mathlib.Omega.{arith}
use lib.ListN.{take, drop, take-append-drop, get_or-append}
use lib.Seq.{get_or-take, drop-append-le}
use Rattle.model.specs.Plan.{Plan, block_count}
use Rattle.model.specs.Refusal.{Verdict, refused, accepted, judge}
use Rattle.model.specs.Replication.{chosen}
use Rattle.model.specs.Placement.{Feasible, max_share}
use Rattle.model.specs.Steps.{none, after, next_step, AtRest, run}
use Rattle.model.specs.Calls.{Outcome, RunReply, on_plan, unless, on_placement, placement_refusal, check_call, step_call, run_call}
use Rattle.model.specs.Claims.{Request, ask_check, ask_step, ask_run, Call, Reply, refused_by, checked, stepped, ran, reply_of, respond, does, play, Gets, Refuses, Allowed, SaysRest, Bounded, After, Claim}
use Rattle.theory.specs.Refusal.{Valid}
use Rattle.theory.specs.Steps.{Taken, none-taken}
use Rattle.theory.proofs.Refusal.{accepted-laws}
use Rattle.theory.proofs.Replication.{chosen-counts}
use Rattle.theory.proofs.StepsNext.{taken-past, taken-feasible, next_step-taken, runs}
use Rattle.theory.proofs.Placement.{feasible-length}
use Rattle.theory.proofs.Calls.{placement_refusal-passes, on_plan-made}
use Rattle.theorems.proofs.Settled.{rest-settled}
use Rattle.theorems.proofs.Bounds.{one-spread, larger-spreads}
use Rattle.theorems.proofs.Agreement.{Agree, agree-feasible, agree-rest}

-- at rest the placement is settled with no slack
rest-bounded : (p : Plan) → Valid p → (words : List ℕ) → Feasible p (chosen p) words → AtRest p words → Bounded p words
rest-bounded p valid words f rest =
    let count = chosen p in
    let even = (chosen-counts p valid).even in
    let settled = (rest-settled p valid.shaped count words f).0 rest in
    record {
      one-spread = λ count' other f' one.
          rw (add-zero (max_share p words)) at (one-spread p words other count count' 0 valid f even settled f' one);
      larger-spreads = λ count' other f' room.
          rw (add-zero (max_share p words)) at (larger-spreads p words other count count' 0 valid f even settled f' room);
    }

-- a refused call leaves the words
refused-call : {A : Type 0} (bytes words : List ℕ) (call : Plan → Outcome A) (reply : A → Reply) (code : ℕ)
    → ((p : Plan) → reply_of reply (call p).answer ≡ refused_by code → ⊥)
    → reply_of reply (on_placement bytes words call).answer ≡ refused_by code → (on_placement bytes words call).items ≡ words
unfolding on_placement on_plan unless
refused-call {A} bytes words call reply code acts = by-verdict (judge bytes)
  where
    by_code : (p : Plan) (n : ℕ) → reply_of reply (unless n words (call p)).answer ≡ refused_by code → (unless n words (call p)).items ≡ words
    by_code p zero e = absurd (acts p e)
    by_code p (suc n) e = refl

    by-verdict : (v : Verdict) → reply_of reply (on_plan v words (placement_refusal words) call).answer ≡ refused_by code
        → (on_plan v words (placement_refusal words) call).items ≡ words
    by-verdict (refused n) e = refl
    by-verdict (accepted p) e = by_code p (placement_refusal words p) e

-- two constructors
clash : ◌≡◌ {A = ℕ} 0 1 → ⊥
clash e = omega arith

respond-refused : (request : Request) (bytes words : List ℕ) (code : ℕ) → (respond request bytes words).reply ≡ refused_by code
    → (respond request bytes words).words ≡ words
unfolding respond check_call step_call run_call
respond-refused ask_check bytes words code e = refused-call bytes words _ (λ n. checked) code (λ p q. clash (cc)) e
respond-refused ask_step bytes words code e = refused-call bytes words _ stepped code (λ p q. clash (cc)) e
respond-refused (ask_run limit) bytes words code e = refused-call bytes words _ ran code (λ p q. clash (cc)) e

does-refused : (call : Call) (words : List ℕ) (code : ℕ) → (does call words).reply ≡ refused_by code → (does call words).words ≡ words
unfolding does
does-refused call words code e =
    ap (λ (s : List ℕ). s ++ drop call.lent words)
    (respond-refused call.request call.bytes (take call.lent words) code e)
    ∙ take-append-drop call.lent words

-- neither a refusal nor a check says that it rests
refused-silent : (r : Reply) (code : ℕ) → r ≡ refused_by code → SaysRest r → ⊥
refused-silent r code e (inl says) = clash (cc)
refused-silent r code e (inr (n, says)) = clash (cc)

checked-silent : SaysRest checked → ⊥
checked-silent (inl says) = clash (cc)
checked-silent (inr (n, says)) = clash (cc)

-- what says that it rests is at rest
step-says : (p : Plan) (words : List ℕ) → SaysRest (stepped (next_step p words)) → AtRest p (after words (next_step p words))
unfolding after
step-says p words (inl says) = let e : next_step p words ≡ none = cc in rw e e
step-says p words (inr (n, says)) = absurd (clash (cc))

run-says : (p : Plan) (limit : ℕ) (words : List ℕ)
    → SaysRest (ran (record { rested = (run p limit words).rested; steps = (run p limit words).steps }))
    → AtRest p (run p limit words).words
run-says p limit words (inl says) = absurd (clash (cc))
run-says p limit words (inr (n, says)) =
    let e : ◌≡◌ {A = RunReply} (record { rested = (run p limit words).rested; steps = (run p limit words).steps }) (record { rested = true; steps = n }) = cc in
    (runs p limit words).rest (ap (λ (r : RunReply). r.rested) e)

module _ (bytes : List ℕ) (p : Plan) (reads : judge bytes ≡ accepted p) (before : List ℕ) where
  valid : Valid p
  valid = (accepted-laws bytes p reads).valid

  module _ (words : List ℕ) (reply : Reply) (held : After p before (record { reply = reply; words = words })) where
    after-refused : (call : Call) → Refuses call words → After p before (does call words)
    after-refused call (code, e) =
        let same = does-refused call words code e in
        record {
          feasible = rw same held.feasible;
          beyond = rw same held.beyond;
          resting = λ says. absurd (refused-silent _ code e says);
          bounded = rw same held.bounded;
        }

    module _ (lent : ℕ) (enough : block_count p ≤ lent) where
      lent-feasible : Feasible p (chosen p) (take lent words)
      lent-feasible =
          agree-feasible p valid.shaped words (take lent words) (λ i l. sym (get_or-take lent words i 0 (omega arith))) (chosen p) held.feasible

      lent-passes : placement_refusal (take lent words) p ≡ 0
      lent-passes = placement_refusal-passes p valid (take lent words) lent-feasible

      -- a call that takes next steps on the words lent
      after-steps : {later : List ℕ} {n : ℕ} → Taken p (take lent words) n later → (now : Reply) → (SaysRest now → AtRest p later)
          → After p before (record { reply = now; words = later ++ drop lent words })
      after-steps {later} taken now rests =
          record {
            feasible = joined-feasible;
            beyond =
                past later feasible
                ∙ ap (λ (s : List ℕ). s ++ drop lent words) (taken-past p taken)
                ∙ sym (past (take lent words) lent-feasible)
                ∙ ap (drop (block_count p)) (take-append-drop lent words)
                ∙ held.beyond;
            resting = λ says. agree-rest p valid.shaped later joined same (chosen p) feasible (rests says);
            bounded = rest-bounded p valid joined joined-feasible;
          }
        where
          joined : List ℕ
          joined = later ++ drop lent words

          feasible : Feasible p (chosen p) later
          feasible = taken-feasible p (chosen p) taken lent-feasible

          same : Agree p later joined
          same i l =
              let long = feasible-length p valid (chosen p) later feasible in
              sym (get_or-append later (drop lent words) 0 i (omega arith))

          joined-feasible : Feasible p (chosen p) joined
          joined-feasible = agree-feasible p valid.shaped later joined same (chosen p) feasible

          past : (s : List ℕ) → Feasible p (chosen p) s
              → drop (block_count p) (s ++ drop lent words) ≡ drop (block_count p) s ++ drop lent words
          past s f = drop-append-le (block_count p) s (drop lent words) (feasible-length p valid (chosen p) s f)

      -- what each request does
      after-request : (request : Request)
          → After p before (record {
            reply = (respond request bytes (take lent words)).reply;
            words = (respond request bytes (take lent words)).words ++ drop lent words;
          })
      unfolding respond check_call step_call run_call on_placement
      after-request ask_check =
          rw (on_plan-made (take lent words) (placement_refusal (take lent words)) _ (judge bytes) p reads lent-passes)
          (after-steps none-taken checked (λ says. absurd (checked-silent says)))
      after-request ask_step =
          rw (on_plan-made (take lent words) (placement_refusal (take lent words)) _ (judge bytes) p reads lent-passes)
          (after-steps (next_step-taken p (take lent words)).1 _ (step-says p (take lent words)))
      after-request (ask_run limit) =
          rw (on_plan-made (take lent words) (placement_refusal (take lent words)) _ (judge bytes) p reads lent-passes)
          (after-steps (runs p limit (take lent words)).taken _ (run-says p limit (take lent words)))

    after-gets : (call : Call) → Gets bytes (block_count p) call → After p before (does call words)
    unfolding does
    after-gets call (same, enough) = rw same (after-request call.lent enough call.request)

    after_call : (call : Call) → Gets bytes (block_count p) call ⊎ Refuses call words → After p before (does call words)
    after_call call (inl gets) = after-gets call gets
    after_call call (inr refuses) = after-refused call refuses

  after-calls : (calls : List Call) (words : List ℕ) (reply : Reply) → After p before (record { reply = reply; words = words })
      → Allowed bytes (block_count p) calls words → After p before (play reply calls words)
  unfolding play Allowed
  after-calls [] words reply held allowed = held
  after-calls (call ∷ calls) words reply held allowed =
      after-calls calls (does call words).words (does call words).reply (after_call words reply held call allowed.0) allowed.1

-- Every call keeps what `After` says of the words held. A refused call leaves them. A call that gets the plan's bytes and its B words
-- sees a lawful placement in them, so it passes rows 12 to 16; a check writes nothing, and a step and a run take next steps, each of
-- which leaves a lawful placement with the same counts and no word past the blocks changed. So after the list the placement is
-- lawful; the last call says `rest` only where no next step is left; and at rest, whatever the last call said, the bounds hold.
pub claim : Claim
claim bytes p reads words feasible calls allowed =
    after-calls bytes p reads words calls words checked
    (record {
      feasible = feasible;
      beyond = refl;
      resting = λ says. absurd (checked-silent says);
      bounded = rest-bounded p (accepted-laws bytes p reads).valid words feasible;
    })
    allowed
