-- `needs::raised` meets its contract: a share is above another figure exactly if that, times the count, is below the popularity in
-- units.
-- Assumes nothing.
use mathlib.Core.Path.{sym, ◌∙◌}
use Prim.Native.Nat.{◌<◌}
use native.Mathlib.Nat.{mul-le-mul, max-eq_left, max-eq_right, le_of_lt, lt_of_not-le}
use native.Mathlib.Omega.{arith}
use Rattle.theory.proofs.Replication.{share-within}
use Rattle.needs.specs.Needs.{fraction_share}
use Rattle.needs.proofs.Laws.{fraction-divides}
use Rattle.needs.proofs.raised.Goals as goal

pub overflow_mul-top : goal.overflow_mul-top
overflow_mul-top c = omega (arith, mul-le-mul c.requires c.args.share.fits.count-max)

pub overflow_mul-share : goal.overflow_mul-share
overflow_mul-share c = omega (arith, c.args.share.fits.popularity-max)

pub returns-then-top-share : goal.returns-then-top-share
returns-then-top-share c =
    let top = c.args.top in
    let share = c.args.share in
    let within = (share-within share.popularity share.count top (fraction-divides share)).0 in
    let above : top < fraction_share share = lt_of_not-le (λ l. omega (arith, c.if-top-share.true, within l)) in
    c.share_at.ensures ∙ sym (max-eq_right (le_of_lt above))

pub returns : goal.returns
returns c =
    sym (max-eq_left ((share-within _ _ _ (fraction-divides c.args.share)).1 c.if-top-share.false))
