-- A short `out`, in the form in which the check finds it at the early returns.
-- Assumes nothing.
use mathlib.Core.Path.{◌≡◌, sym}
use mathlib.Core.List.{List}
use Prim.Native.Nat.{ℕ, ◌<◌}
use lib.ListN.{length}
use Rattle.model.specs.Calls.{OutcomeOver}
use Rattle.interface.specs.Interface.{effect_of, short_out, effect}
use Rattle.codes.proofs.Laws.{out-short}

pub short_told : {I A : Type 0} (need : ℕ) (numbers : A → List ℕ) (items : List I) (out : List ℕ) (call : OutcomeOver I A) → length out < need
    → effect need numbers items out call ≡ effect_of short_out items out
short_told need numbers items out call l = sym (out-short need numbers items out call l)
