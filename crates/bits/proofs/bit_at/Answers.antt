-- `bits::bit_at` meets its contract: the body is the definition.
-- Assumes nothing.
use mathlib.Core.Path.{refl}
use Rattle.model.specs.Placement.{bit}
use Rattle.bits.proofs.bit_at.Goals as goal

pub returns : goal.returns
unfolding bit
returns c = refl
