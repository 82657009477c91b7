-- `capi::bpl_plan` meets its contract: the reader's verdict, as a code.
-- Assumes nothing.
use mathlib.Core.Path.{ap, ◌∙◌}
use Rattle.model.specs.Refusal.{verdict_code}
use Rattle.codes.proofs.Laws.{verdict-told}
use Rattle.capi.proofs.bpl_plan.Goals as goal

pub returns : goal.returns
returns c = c.tell.ensures ∙ verdict-told _ ∙ ap verdict_code c.read-reading.ensures.judged
