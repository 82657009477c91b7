-- `text::put_byte` meets its contract: a store is one byte pasted.
-- Assumes nothing.
use mathlib.Core.Path.{refl}
use native.Mathlib.Omega.{arith}
use Rattle.text.proofs.Laws.{pasted-set}
use Rattle.text.proofs.put_byte.Goals as goal

pub returns : goal.returns
returns c = record { text-is = pasted-set _ _ _ (omega arith); next-is = refl }
