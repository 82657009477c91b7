-- `loads::sum_words` meets its contract. The loop's invariant: the arrays are the loads and copies of the words passed.
-- Assumes nothing.
use Rattle.loads.proofs.Adding.{up_to-none, up_to-asked, up_to-step}
use Rattle.loads.proofs.sum_words.Goals as goal

pub loop-i-init : goal.loop-i-init
loop-i-init c = up_to-none c.args.held.now.cluster _ _

pub add_word-requires : goal.add_word-requires
add_word-requires c =
    rw c.share.ensures
    (up_to-asked _ _ _ _ _ _ c.loop-i.invariant c.loop-i-test.true c.args.held.now.fits.profiles-fit)

pub loop-i-preserved : goal.loop-i-preserved
loop-i-preserved c =
    up_to-step c.args.held.now.cluster _ _ _ _ _ c.loop-i.invariant (rw c.share.ensures at c.add_word.ensures)
