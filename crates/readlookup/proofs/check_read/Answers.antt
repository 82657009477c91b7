-- `readlookup::check_read` meets its contract.
-- Assumes nothing.
use Rattle.std.proofs.Common.{ap, ◌∙◌}
use Rattle.std.proofs.lemmas.Result.{err_from_is_err_and}
use Rattle.readwindow.specs.Window.{gap_code}
use Rattle.readlookup.specs.Lookup.{code_with, read_code}
use Rattle.readlookup.proofs.check_read.Goals as goal

pub returns-in_err-seek : goal.returns-in_err-seek
unfolding read_code
returns-in_err-seek c =
    let p = err_from_is_err_and c.from_residual.result c.from_residual.ensures.1 in
    rw (p.1, p.2) (ap (λ a. code_with a (gap_code c.args.tick c.args.last)) c.in_err-seek.ensures)

pub returns : goal.returns
unfolding read_code
returns c = c.check_gap.ensures ∙ ap (λ a. code_with a (gap_code c.args.tick c.args.last)) c.in_ok-seek.ensures
