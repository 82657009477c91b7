-- `text::put_word` meets its contract. The loop's invariant: the bytes passed stand in the text.
-- Assumes nothing.
use mathlib.Core.Path.{◌≡◌, refl}
use native.Mathlib.Nat.{add-zero}
use native.Mathlib.Omega.{arith}
use lib.ListN.{length, length-set}
use lib.Seq.{take_all}
use Rattle.text.proofs.Laws.{put-none, word_more}
use Rattle.text.proofs.put_word.Goals as goal

pub loop-i-init : goal.loop-i-init
loop-i-init c = (refl, rw (add-zero c.args.at) (put-none _ _))

pub loop-i-preserved : goal.loop-i-preserved
loop-i-preserved c =
    (simp length-set c.loop-i.invariant.0, word_more _ _ _ _ _ c.loop-i-test.true c.requires c.loop-i.invariant.1)

pub shape_of-text : goal.shape_of-text
shape_of-text c = c.loop-i.invariant.0

pub returns : goal.returns
returns c =
    let all : c.loop-i.i ≡ length c.args.word.now = omega arith in
    rw (take_all (length c.args.word.now) c.args.word.now (omega arith)) at (rw all at c.loop-i.invariant.1)
