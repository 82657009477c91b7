-- `input::has_failed` meets its contract, arm by arm.
-- Assumes nothing.
use Rattle.std.proofs.Common.{sym, ap}
use Rattle.model.specs.Plan.{format_of}
use Rattle.model.specs.Listing.{input_room}
use Rattle.input.specs.Input.{failed_by}
use Rattle.input.proofs.has_failed.Goals as goal

pub returns-in-None : goal.returns-in-None
unfolding failed_by input_room format_of
returns-in-None c = sym (ap (failed_by c.args.size) c.in-None.is)

pub returns-in-Some : goal.returns-in-Some
unfolding failed_by
returns-in-Some c = sym (ap (failed_by c.args.size) c.in-Some.is)
