-- `search::find_kind` meets its contract. The loop's invariant: the definition finds nothing from the machines passed.
-- Assumes nothing.
use mathlib.Core.Path.{sym}
use native.Mathlib.Omega.{arith}
use Rattle.search.specs.Scene.{step_of, kind_step}
use Rattle.transfers.proofs.Searches.{hit-is_step}
use Rattle.std.proofs.Common.{Some, None}
use Rattle.search.proofs.Loops.{passed-more, passed-found, passed-all}
use Rattle.search.proofs.find_kind.Goals as goal

pub returns-in-Some : goal.returns-in-Some
unfolding kind_step
returns-in-Some c =
    rw (c.as_step.ensures, sym c.is_exchange-swapping.ensures, sym c.is_across-across.ensures)
    (passed-found c.loop-m.invariant (omega (arith, c.machines-m-end.ensures, c.loop-m-test.true)) c.in-Some.ensures
    (hit-is_step _ (Some c.in-Some.hit)))

pub loop-m-preserved : goal.loop-m-preserved
loop-m-preserved c =
    passed-more c.loop-m.invariant (omega (arith, c.machines-m-end.ensures, c.loop-m-test.true)) c.in_default.ensures
    (hit-is_step _ None)

pub returns : goal.returns
unfolding kind_step step_of
returns c =
    rw (sym c.is_exchange-swapping.ensures, sym c.is_across-across.ensures)
    (passed-all c.loop-m.invariant (omega (arith, c.machines-m-end.ensures, c.loop-m-test.false)))
