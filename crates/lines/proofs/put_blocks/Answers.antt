-- `lines::put_blocks` meets its contract. The loop's invariant: the lines of the blocks passed stand in the text.
-- Assumes nothing.
use Rattle.order.proofs.Tables.{joined-zero}
use Rattle.text.proofs.Laws.{put-none, joined-room, joined-put}
use Rattle.lines.specs.Rows.{row_at}
use Rattle.lines.proofs.put_blocks.Goals as goal

pub loop-i-init : goal.loop-i-init
loop-i-init c = rw (joined-zero _) (put-none _ _)

pub put_block-next-requires : goal.put_block-next-requires
unfolding row_at
put_block-next-requires c = joined-room _ _ _ _ _ c.requires c.loop-i-test.true c.loop-i.invariant

pub loop-i-preserved : goal.loop-i-preserved
unfolding row_at
loop-i-preserved c =
    joined-put _ _ _ _ _ c.requires c.loop-i-test.true c.loop-i.invariant c.put_block-next.ensures
