-- `text::put_field` meets its contract: a space, then the number.
-- Assumes nothing.
use mathlib.Core.List.{[], ◌∷◌}
use Rattle.model.specs.Listing.{number_field}
use Rattle.text.proofs.Laws.{room-first, room_next, put_then}
use Rattle.text.proofs.put_field.Goals as goal

pub put_byte-next-requires : goal.put_byte-next-requires
unfolding number_field
put_byte-next-requires c = room-first _ (32 ∷ []) _ _ c.requires

pub put_decimal-requires : goal.put_decimal-requires
unfolding number_field
put_decimal-requires c =
    room_next _ (32 ∷ []) _ _ c.requires _ _ c.put_byte-next.ensures

pub returns : goal.returns
unfolding number_field
returns c =
    put_then _ (32 ∷ []) _ _ c.requires _ _ _ _ c.put_byte-next.ensures c.put_decimal.ensures
