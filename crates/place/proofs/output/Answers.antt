-- `place::output` meets its contract, arm by arm.
-- Assumes nothing.
use Rattle.std.proofs.Common.{ap, ◌∙◌}
use Rattle.input.specs.Input.{on_input}
use Rattle.place.specs.Output.{printed_for}
use Rattle.place.proofs.output.Goals as goal

pub returns-in-Some : goal.returns-in-Some
unfolding on_input
returns-in-Some c = rw c.in-Some.is (c.list.ensures ∙ ap printed_for c.bytes.ensures)

pub returns-in-None : goal.returns-in-None
unfolding on_input
returns-in-None c = rw c.in-None.is
