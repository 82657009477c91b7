-- What the player of a script promises: the model's play, and the claim of what it has just executed.
use Rattle.std.specs.Prelude.{◌≡◌, List, ℕ, Result}
use Rattle.model.specs.Plan.{Plan, block_count}
use Rattle.model.specs.Refusal.{judge, refused, accepted}
use Rattle.model.specs.Replication.{chosen}
use Rattle.model.specs.Placement.{Feasible}
use Rattle.model.specs.Claims.{checked, play, Allowed, After}
use Rattle.refusal.specs.declared.Refusal.{Refusal}
use Rattle.script.specs.declared.Reply.{Reply}
use Rattle.script.specs.Script.{calls_of, played_by}

-- The words before and after, and the last reply.
pub record ScriptPlayed (bytes other script before : List ℕ) (reply : Result Reply Refusal) (words : List ℕ) : Type 0 where
  pub equal : played_by reply words ≡ play checked (calls_of bytes other script) before
  pub claimed : (p : Plan) → judge bytes ≡ accepted p → Feasible p (chosen p) before
      → Allowed bytes (block_count p) (calls_of bytes other script) before
      → After p before (played_by reply words)

-- Where the other bytes are refused, every script is allowed: with the plan's bytes and fewer than B words a call is refused too.
abbrev pub EveryScript : Type 0
EveryScript =
    (bytes other : List ℕ) (p : Plan) (code : ℕ) → judge bytes ≡ accepted p → judge other ≡ refused code
    → (script words : List ℕ) → Allowed bytes (block_count p) (calls_of bytes other script) words
