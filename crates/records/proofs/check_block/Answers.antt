-- `records::check_block` meets its contract: the rows' tests decide.
-- Assumes nothing.
use native.Mathlib.Omega.{arith}
use Rattle.std.proofs.lemmas.Bool.Decides.{nat_tests}
use Rattle.model.specs.Refusal.{check8, check9}
use Rattle.records.proofs.check_block.Goals as goal

pub returns-then-least-eq0 : goal.returns-then-least-eq0
unfolding check8 check9
returns-then-least-eq0 c = grind (arith, nat_tests)

pub returns-then-spread-eq0 : goal.returns-then-spread-eq0
unfolding check8 check9
returns-then-spread-eq0 c = grind (arith, nat_tests)

pub returns : goal.returns
unfolding check8 check9
returns c = grind (arith, nat_tests)
