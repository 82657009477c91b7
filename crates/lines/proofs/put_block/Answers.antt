-- `lines::put_block` meets its contract, piece by piece.
-- Assumes nothing.
use mathlib.Core.Path.{◌≡◌}
use mathlib.Core.List.{List}
use Prim.Native.Nat.{ℕ}
use native.Mathlib.Omega.{arith}
use Rattle.cluster.specs.Blocks.{share_in, count_in}
use Rattle.text.specs.Pasted.{Room}
use Rattle.lines.specs.Rows.{number_row, block_row}
use Rattle.lines.proofs.Laws.{block_room, three-room, machines-room, block-end, block-put}
use Rattle.lines.proofs.put_block.Goals as goal

-- the row's numbers are those read from the profile
asked : (at i profile word : ℕ) (text : List ℕ) (count share : ℕ) → count ≡ count_in profile → share ≡ share_in profile
    → Room at (block_row i profile word) text → Room at (number_row i count share word) text
asked at i profile word text count share counted shared room = rw (counted, shared) room

pub put_word-named-requires : goal.put_word-named-requires
put_word-named-requires c = block_room _ _ _ _ _ _ (asked _ _ _ _ _ _ _ c.count_of.ensures c.share_of.ensures c.requires)

pub put_fields-listed-requires : goal.put_fields-listed-requires
put_fields-listed-requires c =
    let room = asked _ _ _ _ _ _ _ c.count_of.ensures c.share_of.ensures c.requires in
    record { room = three-room _ _ _ _ _ _ room c.put_word-named.ensures; numbers-max = omega arith }

pub put_holders-ended-requires : goal.put_holders-ended-requires
put_holders-ended-requires c =
    let room = asked _ _ _ _ _ _ _ c.count_of.ensures c.share_of.ensures c.requires in
    machines-room _ _ _ _ _ _ room c.put_word-named.ensures c.put_fields-listed.ensures

pub put_byte-requires : goal.put_byte-requires
put_byte-requires c =
    let room = asked _ _ _ _ _ _ _ c.count_of.ensures c.share_of.ensures c.requires in
    block-end _ _ _ _ _ _ room c.put_word-named.ensures c.put_fields-listed.ensures c.put_holders-ended.ensures

pub returns : goal.returns
returns c =
    let room = asked _ _ _ _ _ _ _ c.count_of.ensures c.share_of.ensures c.requires in
    rw (← c.count_of.ensures, ← c.share_of.ensures)
    (block-put _ _ _ _ _ _ room c.put_word-named.ensures c.put_fields-listed.ensures c.put_holders-ended.ensures c.put_byte.ensures)
