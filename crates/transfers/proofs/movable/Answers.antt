-- `transfers::movable` meets its contract: each early return is a part of the test that fails.
-- Assumes nothing.
use native.Mathlib.Omega.{arith}
use Rattle.transfers.proofs.movable.Goals as goal

pub returns : goal.returns
returns c =
    λ p lies.
    let kept = c.keeps.ensures p lies in (
      λ e. record { in-margin = record { gain = omega arith; below = omega arith }; spread-kept = kept.0 e },
      λ h. kept.1 h.spread-kept,
    )
