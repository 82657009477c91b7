-- Demand 3: one claim about every list of calls.
use Rattle.std.specs.Prelude.{◌≡◌, true, ◌⊎◌, List, [], ◌∷◌, ◌++◌, ℕ, ◌+◌, ◌*◌, ◌-◌, ◌<◌, ◌≤◌, take, drop}
use Rattle.model.specs.Plan.{Plan, machines, block_count, block_of}
use Rattle.model.specs.Refusal.{judge, accepted}
use Rattle.model.specs.Replication.{chosen}
use Rattle.model.specs.Placement.{Feasible, used, max_load_of, max_share}
use Rattle.model.specs.Steps.{Step, AtRest}
use Rattle.model.specs.Calls.{Answer, turned_back, answered, Outcome, check_call, step_call, RunReply, run_call}

-- What a call asks for: a check, one step, or a run with a step limit.
pub data Request : Type 0 where
  ask_check : Request
  ask_step : Request
  ask_run : ℕ → Request

-- A call: the bytes that it gets for the plan, how many of the words held it is lent, and its request.
pub record Call : Type 0 where
  pub bytes : List ℕ
  pub lent : ℕ
  pub request : Request

-- What a call answers: its refusal, that the check passed, the step taken, or how a run ended.
pub data Reply : Type 0 where
  refused_by : ℕ → Reply
  checked : Reply
  stepped : Step → Reply
  ran : RunReply → Reply

abbrev pub reply_of : {A : Type 0} → (A → Reply) → Answer A → Reply
reply_of reply (turned_back code) = refused_by code
reply_of reply (answered a) = reply a

-- The reply, and the words afterwards.
pub record Played : Type 0 where
  pub reply : Reply
  pub words : List ℕ

abbrev pub played : {A : Type 0} → (A → Reply) → Outcome A → Played
played reply outcome = record { reply = reply_of reply outcome.answer; words = outcome.items }

-- What a request does on the words lent.
unfoldable pub respond : Request → List ℕ → List ℕ → Played
respond ask_check bytes words = played (λ n. checked) (check_call bytes words)
respond ask_step bytes words = played stepped (step_call bytes words)
respond (ask_run limit) bytes words = played ran (run_call bytes words limit)

-- A call acts on the words that it is lent; those past them stay.
unfoldable pub does : Call → List ℕ → Played
does call words =
    let part = respond call.request call.bytes (take call.lent words) in
    record { reply = part.reply; words = part.words ++ drop call.lent words }

-- The calls one after the other: the last reply (`before` where there is no call) and the words afterwards.
unfoldable pub play : Reply → List Call → List ℕ → Played
play before [] words = record { reply = before; words = words }
play before (call ∷ calls) words = play (does call words).reply calls (does call words).words

-- A call that gets the plan's own bytes and at least its B words, or one that is refused.
abbrev pub Gets : List ℕ → ℕ → Call → Type 0
Gets plan blocks call = (call.bytes ≡ plan) × (blocks ≤ call.lent)

abbrev pub Refuses : Call → List ℕ → Type 0
Refuses call words = (code : ℕ) × ((does call words).reply ≡ refused_by code)

-- Every call of the list, at the words that the calls before it left.
unfoldable pub Allowed : List ℕ → ℕ → List Call → List ℕ → Type 0
Allowed plan blocks [] words = Unit {0}
Allowed plan blocks (call ∷ calls) words =
    (Gets plan blocks call ⊎ Refuses call words) × Allowed plan blocks calls (does call words).words

-- The reply says `rest`: a step call that found none, or a run that rested.
abbrev pub SaysRest : Reply → Type 0
SaysRest reply = (reply ≡ stepped Step.none) ⊎ ((steps : ℕ) × (reply ≡ ran (record { rested = true; steps = steps })))

-- The bounds at rest, against every lawful placement at any lawful counts.
pub record Bounded (p : Plan) (words : List ℕ) : Type 0 where
  pub one-spread : (count : ℕ → ℕ) (other : List ℕ) → Feasible p count other
      → ((i : ℕ) → i < block_count p → (block_of p i).min_domains ≡ 1)
      → machines p * max_load_of p words ≤ machines p * max_load_of p other + (machines p - 1) * max_share p words
  pub larger-spreads : (count : ℕ → ℕ) (other : List ℕ) → Feasible p count other
      → ((m : ℕ) → m < machines p → used p words m < p.capacity)
      → machines p * max_load_of p words ≤ machines p * max_load_of p other + 3 * (machines p - 1) * max_share p words

-- What holds after the calls, with the words held before them.
pub record After (p : Plan) (before : List ℕ) (out : Played) : Type 0 where
  pub feasible : Feasible p (chosen p) out.words
  pub beyond : drop (block_count p) out.words ≡ drop (block_count p) before
  pub resting : SaysRest out.reply → AtRest p out.words
  pub bounded : AtRest p out.words → Bounded p out.words

-- The claim: from any lawful placement with the chosen counts, after every allowed list of calls.
abbrev pub Claim : Type 0
Claim =
    (bytes : List ℕ) (p : Plan) → judge bytes ≡ accepted p
    → (words : List ℕ) → Feasible p (chosen p) words
    → (calls : List Call) → Allowed bytes (block_count p) calls words
    → After p words (play checked calls words)
