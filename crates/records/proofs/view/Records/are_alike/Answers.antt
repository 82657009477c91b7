-- `records::Records::are_alike` meets its contract: the numbers read decide.
-- Assumes nothing.
use native.Mathlib.Omega.{arith}
use Rattle.std.proofs.lemmas.Bool.Decides.{nat_tests}
use Rattle.model.specs.Refusal.{alike}
use Rattle.records.proofs.view.Records.are_alike.Goals as goal

pub returns-then-min_replicas : goal.returns-then-min_replicas
unfolding alike
returns-then-min_replicas c = grind (arith, nat_tests)

pub returns-else-min_replicas : goal.returns-else-min_replicas
unfolding alike
returns-else-min_replicas c = grind (arith, nat_tests)
