-- `input::read_on` meets its contract: an input that has ended gives no byte more.
-- Assumes nothing.
use Rattle.model.specs.Plan.{format_of}
use Rattle.model.specs.Listing.{input_room}
use Rattle.input.proofs.Known.{full-answer}
use Rattle.input.proofs.read_on.Goals as goal

pub returns-then-size-eq-INPUT_ROOM-clause-ended : goal.returns-then-size-eq-INPUT_ROOM-clause-ended
unfolding input_room format_of
returns-then-size-eq-INPUT_ROOM-clause-ended g c = full-answer _ _ _ c.if-size-eq-INPUT_ROOM.true

pub returns-clause-full : goal.returns-clause-full
unfolding input_room format_of
returns-clause-full g c = λ full. absurd (c.if-size-eq-INPUT_ROOM.false full)
