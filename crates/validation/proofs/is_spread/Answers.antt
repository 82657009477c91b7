-- `validation::is_spread` meets its contract: a spread of one is met by any copy, otherwise the domains are counted.
-- Assumes nothing.
use mathlib.Core.Path.{sym, ◌∙◌}
use borrow.Author.Tests.{le-leb}
use Rattle.validation.proofs.Laws.{spread-one}
use Rattle.validation.proofs.is_spread.Goals as goal

pub returns-then-spread-le1 : goal.returns-then-spread-le1
returns-then-spread-le1 c p of some =
    let one = c.if-spread-le1.true in
    le-leb _ _ one ∙ sym (spread-one p of.valid.shaped _ _ (rw c.spread_of-spread.ensures at one) some)
