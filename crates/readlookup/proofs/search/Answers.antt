-- `readlookup::search` meets its contract.
-- Assumes nothing.
use Rattle.std.proofs.Common.{ap, eq-eqb, ne_eqb}
use Rattle.std.proofs.lemmas.Result.{err_from_is_err_and}
use Rattle.model.specs.ReadLog.{standing}
use Rattle.readlookup.specs.Lookup.{searched_with, searched}
use Rattle.readlookup.proofs.search.Goals as goal

pub returns-in_err-mate : goal.returns-in_err-mate
unfolding searched
returns-in_err-mate c =
    let p = err_from_is_err_and c.from_residual.result c.from_residual.ensures.1 in
    rw (p.1, p.2) (ap (searched_with c.args.block (standing c.args.lent c.args.count)) c.in_err-mate.ensures)

pub returns-then-mate-block : goal.returns-then-mate-block
unfolding searched
returns-then-mate-block c =
    rw (c.standing-own.ensures, ← c.in_ok-mate.ensures, eq-eqb _ _ c.if-mate-block.true)

pub returns-else-mate-block : goal.returns-else-mate-block
unfolding searched
returns-else-mate-block c =
    rw (c.standing-own.ensures, ← c.in_ok-mate.ensures, ne_eqb _ _ c.if-mate-block.false)
