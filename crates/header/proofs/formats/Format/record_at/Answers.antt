-- `header::Format::record_at` meets its contract, for every format.
-- Assumes nothing.
use mathlib.Core.Path.{refl}
use Prim.Native.Nat.{ℕ, ◌+◌, ◌*◌, ◌≤◌}
use native.Mathlib.Nat.{mul-le-mul}
use native.Mathlib.Omega.{arith}
use Rattle.model.specs.Plan.{record_length}
use Rattle.model.specs.Refusal.{max_blocks}
use Rattle.theory.specs.Widths.{widest_popularity}
use Rattle.header.specs.Format.{as_format}
use Rattle.header.specs.declared.formats.Format.{Format}
use Rattle.header.proofs.formats.Format.record_at.Goals as goal

-- the records before this one are no longer than the longest format's
records-max : (f : Format) (i : ℕ) → i ≤ max_blocks → record_length (as_format f) * i ≤ (widest_popularity + 3) * max_blocks
records-max f i l = mul-le-mul {n₂ = widest_popularity + 3} (omega (arith, f.popularity_max, f.replicas_max, f.domains_max, f.pair_max)) l

pub overflow_mul-result : goal.overflow_mul-result
overflow_mul-result c =
    omega (arith, records-max c.args.self _ c.requires)

pub overflow_add-result-2 : goal.overflow_add-result-2
overflow_add-result-2 c =
    omega (arith, records-max c.args.self _ c.requires)

pub returns : goal.returns
returns c =
    (refl, omega (arith, records-max c.args.self _ c.requires))
