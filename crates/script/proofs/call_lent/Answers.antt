-- `script::call_lent` meets its contract: the kind picks the call.
-- Assumes nothing.
use Rattle.script.proofs.Laws.{kind-zero, kind-one, kind-more}
use Rattle.script.proofs.call_lent.Goals as goal

pub returns-then-kind-eq0 : goal.returns-then-kind-eq0
returns-then-kind-eq0 c = kind-zero _ _ _ _ c.if-kind-eq0.true c.check_lent.ensures

pub returns-then-kind-eq1 : goal.returns-then-kind-eq1
returns-then-kind-eq1 c = kind-one _ _ _ _ c.if-kind-eq1.true c.step_lent.ensures

pub returns : goal.returns
returns c =
    kind-more _ _ _ _ c.if-kind-eq0.false c.if-kind-eq1.false c.run_lent.ensures
