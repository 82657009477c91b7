-- `needs::is_less` meets its contract: two shares compare as the popularities do, each times the other's count.
-- Assumes nothing.
use mathlib.Core.Path.{◌≡◌, sym, ◌∙◌}
use Prim.Native.Nat.{◌*◌, ◌≤◌}
use native.Mathlib.Nat.{mul-le-mul, lt_of_not-le}
use native.Mathlib.Decide.{dec_le}
use native.Mathlib.Omega.{arith}
use borrow.Author.Tests.{lt-ltb, le-ltb}
use lib.Dec.{ltb}
use Rattle.theory.specs.Widths.{most_replicas, popularity_bound}
use Rattle.theory.proofs.Replication.{share-compares}
use Rattle.needs.specs.declared.fractions.Fraction.{Fraction}
use Rattle.needs.specs.Needs.{fraction_share}
use Rattle.needs.proofs.Laws.{fraction-divides}
use Rattle.needs.proofs.is_less.Goals as goal

module _ (a b : Fraction) where
  product-max : a.popularity * b.count ≤ popularity_bound * most_replicas
  product-max = mul-le-mul a.fits.popularity-max b.fits.count-max

  less-is : ltb (a.popularity * b.count) (b.popularity * a.count) ≡ ltb (fraction_share a) (fraction_share b)
  less-is =
      let compares = share-compares b.popularity b.count a.popularity a.count
      (fraction-divides b) (fraction-divides a) in
      elim (dec_le (fraction_share b) (fraction_share a)) [
        | yes l ↦ le-ltb _ _ (compares.0 l) ∙ sym (le-ltb _ _ l)
        | no l ↦ lt-ltb _ _ (lt_of_not-le (λ m. l (compares.1 m))) ∙ sym (lt-ltb _ _ (lt_of_not-le l))
      ]

pub overflow_mul-result : goal.overflow_mul-result
overflow_mul-result c = omega (arith, product-max c.args.a c.args.b)

pub overflow_mul-result-2 : goal.overflow_mul-result-2
overflow_mul-result-2 c = omega (arith, product-max c.args.b c.args.a)

pub returns : goal.returns
returns c = less-is c.args.a c.args.b
