-- What playing a script through the C interface promises: the model's play, and demand 3 about what has just run.
use Rattle.std.specs.Prelude.{◌≡◌, List, ℕ, ◌≤◌, length}
use Rattle.model.specs.Plan.{Plan, block_count}
use Rattle.model.specs.Refusal.{judge, accepted}
use Rattle.model.specs.Replication.{chosen}
use Rattle.model.specs.Placement.{Feasible}
use Rattle.model.specs.Calls.{Outcome}
use Rattle.model.specs.Claims.{Reply, Played, checked, play, Allowed, After}
use Rattle.script.specs.Script.{calls_of}
use Rattle.interface.specs.Interface.{effect_of, effect, reply_numbers}
use Rattle.codes.specs.Told.{reply_outcome}

-- A play always has an answer, its last reply.
abbrev pub play_outcome : Played → Outcome Reply
play_outcome p = reply_outcome p.reply p.words

abbrev pub played_with : List ℕ → List ℕ → List ℕ → List ℕ → Played
played_with plan other script words = play checked (calls_of plan other script) words

pub record PlayedInto (plan other script words out : List ℕ) (code : ℕ) (words' out' : List ℕ) : Type 0 where
  pub equal : effect_of code words' out' ≡ effect 7 reply_numbers words out (play_outcome (played_with plan other script words))
  pub claimed : 7 ≤ length out → (p : Plan) → judge plan ≡ accepted p → Feasible p (chosen p) words
      → Allowed plan (block_count p) (calls_of plan other script) words
      → After p words (record { reply = (played_with plan other script words).reply; words = words' })
