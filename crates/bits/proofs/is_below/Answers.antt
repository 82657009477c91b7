-- `bits::is_below` meets its contract: at 64 every word is below, and under 64 the test is the shift's.
-- Assumes nothing.
use borrow.Author.Tests.{lt-ltb}
use mathlib.Core.Path.{sym}
use native.Mathlib.Omega.{arith}
use Rattle.bits.proofs.Laws.{one_shl}
use Rattle.bits.proofs.is_below.Goals as goal

pub returns-then-machines-eq64 : goal.returns-then-machines-eq64
returns-then-machines-eq64 c = rw c.if-machines-eq64.true (sym (lt-ltb c.args.word _ c.ranges.word.fits))

pub returns : goal.returns
returns c = rw (one_shl c.args.machines (omega arith))
