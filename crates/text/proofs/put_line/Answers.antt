-- `text::put_line` meets its contract, piece by piece.
-- Assumes nothing.
use Rattle.text.proofs.Laws.{word_room, fields-room, end-room, end-put}
use Rattle.text.proofs.put_line.Goals as goal

pub put_word-named-requires : goal.put_word-named-requires
put_word-named-requires c = word_room _ _ _ _ c.requires.room

pub put_fields-listed-requires : goal.put_fields-listed-requires
put_fields-listed-requires c =
    let asked = c.requires in
    record { room = fields-room _ _ _ _ asked.room c.put_word-named.ensures; numbers-max = asked.numbers-max }

pub put_byte-requires : goal.put_byte-requires
put_byte-requires c =
    let asked = c.requires in
    end-room _ _ _ _ asked.room c.put_word-named.ensures c.put_fields-listed.ensures

pub returns : goal.returns
returns c =
    let asked = c.requires in
    end-put _ _ _ _ asked.room c.put_word-named.ensures c.put_fields-listed.ensures c.put_byte.ensures
