-- `header::format_in` meets its contract.
-- Assumes nothing.
use mathlib.Core.Path.{ap, ◌∙◌}
use Rattle.model.specs.Plan.{format_of}
use Rattle.header.proofs.format_in.Goals as goal

pub returns : goal.returns
returns c =
    c.format_of.ensures ∙ ap format_of c.field_at.ensures.0
