-- `header::format_of` meets its contract.
-- Assumes nothing.
use native.Mathlib.Omega.{arith}
use Rattle.std.proofs.lemmas.Bool.Decides.{nat_tests}
use Rattle.model.specs.Plan.{format_of}
use Rattle.header.proofs.format_of.Goals as goal

pub returns : goal.returns
unfolding format_of
returns c =
    grind (arith, nat_tests)
