-- `header::check_hall` meets its contract: the rows' tests decide.
-- Assumes nothing.
use native.Mathlib.Nat.{mul-le-mul}
use native.Mathlib.Omega.{arith}
use Rattle.std.proofs.lemmas.Bool.Decides.{nat_tests}
use Rattle.model.specs.Refusal.{check4, check22, check5}
use Rattle.header.proofs.check_hall.Goals as goal

pub returns-then-racks-eq0 : goal.returns-then-racks-eq0
unfolding check4
returns-then-racks-eq0 c later = grind (arith, nat_tests)

pub overflow_mul-racks : goal.overflow_mul-racks
overflow_mul-racks c =
    let a = c.args in
    omega (arith, mul-le-mul {n₁ = a.racks} {m₁ = a.rack_size} {n₂ = 255} {m₂ = 255} (omega arith) (omega arith))

pub returns-then-feeds-eq0 : goal.returns-then-feeds-eq0
unfolding check4 check22
returns-then-feeds-eq0 c later = grind (arith, nat_tests)

pub returns-then-capacity-eq0 : goal.returns-then-capacity-eq0
unfolding check4 check22 check5
returns-then-capacity-eq0 c later = grind (arith, nat_tests)

pub returns : goal.returns
unfolding check4 check22 check5
returns c later = grind (arith, nat_tests)
