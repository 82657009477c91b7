-- `script::call_item` meets its contract: the item's source picks the bytes.
-- Assumes nothing.
use Rattle.script.proofs.Laws.{from-other, from-plan}
use Rattle.script.proofs.call_item.Goals as goal

pub returns-then-source-eq1 : goal.returns-then-source-eq1
returns-then-source-eq1 c = from-other _ _ _ _ c.if-source-eq1.true c.call_part.ensures

pub returns : goal.returns
returns c = from-plan _ _ _ _ c.if-source-eq1.false c.call_part-2.ensures
