-- `header::check_mark` meets its contract: the rows' tests decide.
-- Assumes nothing.
use native.Mathlib.Omega.{arith}
use Rattle.std.proofs.lemmas.Bool.Decides.{nat_tests}
use Rattle.model.specs.Refusal.{check1, check2, check3}
use Rattle.header.proofs.check_mark.Goals as goal

pub returns-then-bytes-lt-COMMON_LENGTH : goal.returns-then-bytes-lt-COMMON_LENGTH
unfolding check1
returns-then-bytes-lt-COMMON_LENGTH c = record { code = λ later. grind (arith, nat_tests); long = λ e. omega arith }

pub returns-then-field_at-ne-MARK : goal.returns-then-field_at-ne-MARK
unfolding check1 check2
returns-then-field_at-ne-MARK c = record { code = λ later. grind (arith, nat_tests); long = λ e. omega arith }

pub returns-then-version-eq0 : goal.returns-then-version-eq0
unfolding check1 check2 check3
returns-then-version-eq0 c = record { code = λ later. grind (arith, nat_tests); long = λ e. omega arith }

pub returns : goal.returns
unfolding check1 check2 check3
returns c = record { code = λ later. grind (arith, nat_tests); long = λ e. omega arith }
