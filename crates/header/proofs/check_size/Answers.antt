-- `header::check_size` meets its contract: each return rewrites with the tests that led there.
-- Assumes nothing.
use native.Mathlib.Omega.{arith}
use Rattle.std.proofs.lemmas.Bool.Decides.{nat_tests}
use Rattle.model.specs.Refusal.{check6, check7}
use Rattle.header.proofs.check_size.Goals as goal

pub returns-then-blocks-gt-MAX_BLOCKS : goal.returns-then-blocks-gt-MAX_BLOCKS
unfolding check6
returns-then-blocks-gt-MAX_BLOCKS c later = grind (arith, nat_tests, c.requires)

pub returns-then-size-record_at : goal.returns-then-size-record_at
unfolding check6 check7
returns-then-size-record_at c later = grind (arith, nat_tests)

pub returns : goal.returns
unfolding check6 check7
returns c later = grind (arith, nat_tests)
