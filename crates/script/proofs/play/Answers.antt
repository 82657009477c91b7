-- `script::play` meets its contract. The loop's invariant: the calls that are left, played from the last reply and the words, end as
-- the whole script does.
-- Assumes nothing.
use mathlib.Core.Path.{refl, ◌∙◌}
use native.Mathlib.Omega.{arith}
use Rattle.script.proofs.Laws.{left-first, left-more, script-played}
use Rattle.script.proofs.play.Goals as goal

pub loop-item-init : goal.loop-item-init
loop-item-init c = (refl, left-first _ _ _ _)

pub loop-item-preserved : goal.loop-item-preserved
loop-item-preserved c =
    let called = c.call_item-reply in
    (called.auto.words ∙ c.loop-item.invariant.0, left-more _ _ _ _ _ _ _ _ _ (omega arith) called.ensures c.loop-item.invariant.1)

pub shape_of-words : goal.shape_of-words
shape_of-words c = c.loop-item.invariant.0

pub returns : goal.returns
returns c = script-played _ _ _ _ _ _ _ (omega arith) c.loop-item.invariant.1
