-- `needs::share_at` meets its contract: the count divides the unit, so the popularity times the quotient is the share.
-- Assumes nothing.
use native.Mathlib.Nat.{mul-le-mul, div-le_self, lt_of_le_of_lt}
use native.Mathlib.Omega.{arith}
use Rattle.theory.specs.Widths.{popularity_bound}
use Rattle.theory.proofs.Replication.{share-quotient}
use Rattle.needs.proofs.Laws.{fraction-divides}
use Rattle.needs.proofs.share_at.Goals as goal

pub overflow_mul-result : goal.overflow_mul-result
overflow_mul-result c =
    let max = c.args.at.fits.popularity-max in
    record {
      fits = lt_of_le_of_lt (mul-le-mul {n₂ = popularity_bound} (omega arith) (div-le_self _ _)) (omega arith);
    }

pub returns : goal.returns
returns c = share-quotient _ _ (fraction-divides c.args.at)
