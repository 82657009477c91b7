-- `input::fill` meets its contract: the buffer keeps its bytes' number, and what came of a known input is its beginning.
-- Assumes nothing.
use Rattle.std.proofs.Common.{◌≡◌, length, arith, length-take-le, sym, ◌∙◌}
use Rattle.model.specs.Plan.{format_of}
use Rattle.model.specs.Listing.{input_room}
use Rattle.input.specs.Input.{InputIs}
use Rattle.input.proofs.Known.{known-whole, known-none}
use Rattle.input.proofs.fill.Goals as goal

pub returns-else-has_failed-clause-source : goal.returns-else-has_failed-clause-source
unfolding input_room format_of
returns-else-has_failed-clause-source g c =
    omega (arith, c.in_ok-size.ensures.within, length-take-le c.in_ok-size.size c.read_full.new.part c.in_ok-size.ensures.within)

pub returns-else-has_failed-clause-whole : goal.returns-else-has_failed-clause-whole
unfolding input_room format_of InputIs
returns-else-has_failed-clause-whole g c =
    let read = c.in_ok-size.ensures in
    let room : length c.read_full.new.part ≡ input_room = omega arith in
    known-whole _ _ c.read_full.new.part c.in_ok-size.size room (omega (arith, read.within)) read.came (λ h. read.ended (omega arith))

pub returns-then-has_failed-clause-whole : goal.returns-then-has_failed-clause-whole
unfolding input_room format_of InputIs
returns-then-has_failed-clause-whole g c =
    let read = c.in_ok-size.ensures in
    let after = c.in_ok-next.ensures in
    let failed = sym c.has_failed.ensures ∙ c.if-has_failed.true in
    known-none _ _ c.read_full.new.part c.in_ok-size.size c.in_ok-next.next (omega (arith, read.within)) read.came (λ h. read.ended (omega arith))
    after.full after.ended failed
