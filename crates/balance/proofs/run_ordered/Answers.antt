-- `balance::run_ordered` meets its contract. The loop's invariant: the loads are the words', and the run is the steps taken and the run that is left.
-- Assumes nothing.
use mathlib.Core.Path.{◌≡◌}
use native.Mathlib.Omega.{arith}
use Rattle.balance.proofs.Laws.{along-more, along-rest, along-end}
use Rattle.index.proofs.Laws.{ordered-kept}
use Rattle.balance.proofs.run_ordered.Goals as goal

pub returns-in_default : goal.returns-in_default
returns-in_default c = along-rest c.loop-steps.invariant.0 c.in_default.ensures.0

pub loop-steps-preserved : goal.loop-steps-preserved
loop-steps-preserved c =
    let at = c.loop-steps.invariant in
    let found = c.in-Some.ensures in
    let cleared = c.clear.ensures in
    let followed = c.follow-loads.ensures in (
      rw followed.words_are (along-more at.0 c.loop-steps-test.true _ found.0),
      record {
        asked = followed.loads-follow _ at.1.asked found.0.sound;
        ordered = ordered-kept cleared.1 found.1;
        cleared = cleared.0;
      },
    )

pub returns-in-None : goal.returns-in-None
returns-in-None c =
    let all : c.loop-steps.steps ≡ c.args.limit = omega (arith, c.loop-steps-test.false, c.loop-steps.invariant.0.within) in
    along-rest (rw all at c.loop-steps.invariant.0) c.in-None.ensures.0

pub returns-in-Some-look : goal.returns-in-Some-look
returns-in-Some-look c =
    let all : c.loop-steps.steps ≡ c.args.limit = omega (arith, c.loop-steps-test.false, c.loop-steps.invariant.0.within) in
    along-end (rw all at c.loop-steps.invariant.0) (omega arith) _ c.in-Some-look.ensures.0
