-- Where the other bytes are refused, every script is allowed: each of its calls gets the plan's bytes or these.
-- Assumes nothing.
use mathlib.Core.Path.{◌≡◌, refl}
use mathlib.Core.List.{List, [], ◌∷◌}
use mathlib.Core.Logic.{◌⊎◌, inl, inr}
use Prim.Native.Nat.{ℕ, zero, suc}
use Rattle.model.specs.Refusal.{refused, judge}
use Rattle.theorems.specs.Claim.{OwnOrRefused}
use Rattle.theorems.proofs.EveryList.{every-list}
use Rattle.script.specs.Script.{source_of, source_bytes, call_of, calls_of}
use Rattle.script.specs.Promise.{EveryScript}

module _ (bytes other : List ℕ) (code : ℕ) (refuses : judge other ≡ refused code) where
  source-own : (source : ℕ)
      → (source_bytes source bytes other ≡ bytes) ⊎ ((n : ℕ) × (judge (source_bytes source bytes other) ≡ refused n))
  unfolding source_bytes
  source-own zero = inl refl
  source-own (suc source) = inr (code, refuses)

  calls-own : (script : List ℕ) → OwnOrRefused bytes (calls_of bytes other script)
  unfolding call_of calls_of OwnOrRefused
  calls-own [] = tt
  calls-own (item ∷ script) = (source-own (source_of item), calls-own script)

pub every-script : EveryScript
every-script bytes other p code reads refuses script words =
    every-list bytes p reads (calls_of bytes other script) (calls-own bytes other code refuses script) words
