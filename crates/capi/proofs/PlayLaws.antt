-- What the player of scripts promises, through the C interface.
-- Assumes nothing.
use mathlib.Core.Path.{ap, sym}
use mathlib.Core.List.{List}
use Prim.Native.Nat.{ℕ, ◌≤◌}
use Rattle.std.specs.Prelude.{Result}
use Rattle.refusal.specs.declared.Refusal.{Refusal}
use lib.ListN.{length}
use Rattle.model.specs.Claims.{Played}
use Rattle.script.specs.declared.Reply.{Reply}
use Rattle.script.specs.Script.{reply_is}
use Rattle.script.specs.Promise.{ScriptPlayed}
use Rattle.interface.specs.Interface.{reply_numbers}
use Rattle.codes.specs.Told.{Told, reply_outcome}
use Rattle.codes.proofs.Laws.{effect-told}
use Rattle.capi.specs.Script.{play_outcome, PlayedInto}

pub played-into : (plan other script words out : List ℕ) (reply : Result Reply Refusal) (code : ℕ) (words' out' : List ℕ) → 7 ≤ length out
    → ScriptPlayed plan other script words reply words' → Told reply_numbers (reply_outcome (reply_is reply)) out code out'
    → PlayedInto plan other script words out code words' out'
played-into plan other script words out reply code words' out' enough promise told =
    record {
      equal = effect-told 7 reply_numbers words out _ (reply_outcome (reply_is reply)) words' code out' enough (ap play_outcome promise.equal) told;
      claimed =
          λ enough p reads feasible allowed.
          rw (ap (λ (q : Played). q.reply) (sym promise.equal)) (promise.claimed p reads feasible allowed);
    }
