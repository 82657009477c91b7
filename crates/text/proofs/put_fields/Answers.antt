-- `text::put_fields` meets its contract. The loop's invariant: the fields of the numbers passed stand in the text.
-- Assumes nothing.
use Rattle.text.proofs.Laws.{fields-start, field_room, field_put}
use Rattle.text.proofs.put_fields.Goals as goal

pub loop-number-init : goal.loop-number-init
loop-number-init c = fields-start _ _

pub put_field-next-requires : goal.put_field-next-requires
put_field-next-requires c =
    field_room _ _ _ _ c.loop-number-test.true c.requires.room _ _ c.loop-number.invariant

pub loop-number-preserved : goal.loop-number-preserved
loop-number-preserved c =
    field_put _ _ _ _ c.loop-number-test.true c.requires.room _ _ _ _ c.loop-number.invariant c.put_field-next.ensures
