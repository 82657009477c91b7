-- `plan::check_total` meets its contract: the rows' tests decide.
-- Assumes nothing.
use native.Mathlib.Omega.{arith}
use Rattle.std.proofs.lemmas.Bool.Decides.{nat_tests}
use Rattle.model.specs.Refusal.{check23, check10, check11}
use Rattle.plan.proofs.check_total.Goals as goal

pub returns-then-places-budget : goal.returns-then-places-budget
unfolding check23 check10 check11
returns-then-places-budget c = grind (arith, nat_tests)

pub returns-then-budget-total : goal.returns-then-budget-total
unfolding check23 check10 check11
returns-then-budget-total c = grind (arith, nat_tests)

pub returns-then-places-total : goal.returns-then-places-total
unfolding check23 check10 check11
returns-then-places-total c = grind (arith, nat_tests)

pub returns : goal.returns
unfolding check23 check10 check11
returns c = grind (arith, nat_tests)
