-- A placement handed in is the first B of the words lent: words past them are never read and never written.
use Rattle.std.specs.Prelude.{◌≡◌, List, ℕ, take, drop}
use Rattle.model.specs.Plan.{Plan, block_count}
use Rattle.model.specs.Refusal.{judge, accepted}
use Rattle.model.specs.Calls.{Outcome, check_call, report_call, step_call, run_call}

-- A call on the first B words alone: on two buffers that agree on these it answers alike, and both hold the same there afterwards.
pub record FirstAlone {A : Type 0} (blocks : ℕ) (call : List ℕ → Outcome A) : Type 0 where
  pub answer-same : (words other : List ℕ) → take blocks words ≡ take blocks other → (call words).answer ≡ (call other).answer
  pub items-same : (words other : List ℕ) → take blocks words ≡ take blocks other
      → take blocks (call words).items ≡ take blocks (call other).items
  pub beyond : (words : List ℕ) → drop blocks (call words).items ≡ drop blocks words

-- So is every call on a placement.
pub record UnreadLaws (bytes : List ℕ) (blocks : ℕ) : Type 0 where
  pub check : FirstAlone blocks (check_call bytes)
  pub report : FirstAlone blocks (report_call bytes)
  pub step : FirstAlone blocks (step_call bytes)
  pub run : (limit : ℕ) → FirstAlone blocks (λ words. run_call bytes words limit)

abbrev pub BeyondUnread : Type 0
BeyondUnread = (bytes : List ℕ) (p : Plan) → judge bytes ≡ accepted p → UnreadLaws bytes (block_count p)
