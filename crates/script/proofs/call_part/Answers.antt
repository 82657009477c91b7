-- `script::call_part` meets its contract: the part lent is the model's, and the words past it stay.
-- Assumes nothing.
use Rattle.script.proofs.Laws.{does-part}
use Rattle.script.proofs.call_part.Goals as goal

pub returns : goal.returns
returns c =
    does-part _ _ _ _ _ c.min-lent.ensures c.call_lent.ensures
