-- `index::Index::empty` meets its contract: zeros are empty bit sets.
-- Assumes nothing.
use mathlib.Core.Path.{◌≡◌, refl}
use Prim.Native.Nat.{ℕ}
use native.Mathlib.Omega.{arith}
use native.Mathlib.Decide.{dec_lt}
use lib.ListN.{get_or, replicate, length-replicate, get_or-replicate}
use Rattle.std.proofs.lemmas.List.{get_or_past}
use Rattle.model.specs.Refusal.{max_blocks}
use Rattle.index.specs.declared.Index.{Index}
use Rattle.index.specs.Index.{Cleared}
use Rattle.index.proofs.Index.empty.Goals as goal

-- an item of a list of zeros
zero_at : (n k : ℕ) → get_or (replicate {A = ℕ} n 0) k 0 ≡ 0
zero_at n k = elim (dec_lt k n) [
  | yes l ↦ get_or-replicate {A = ℕ} n k 0 0 l
  | no l ↦ get_or_past (replicate {A = ℕ} n 0) k 0 (omega (arith, length-replicate {A = ℕ} n 0))
]

-- zeros are empty bit sets
blank-cleared : {index : Index} → index.by_number ≡ replicate {A = ℕ} max_blocks 0 → index.by_rank ≡ replicate {A = ℕ} max_blocks 0
    → Cleared index
blank-cleared number rank = record { by_number = λ k. rw number (zero_at max_blocks k); by_rank = λ k. rw rank (zero_at max_blocks k) }

pub returns : goal.returns
returns c = blank-cleared refl refl
