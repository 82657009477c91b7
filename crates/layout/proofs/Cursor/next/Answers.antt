-- `layout::Cursor::next` meets its contract: one position on is the next rack, the first rack of the next level, or position 0.
-- Assumes nothing.
use native.Mathlib.Omega.{arith}
use Rattle.layout.proofs.Laws.{on-rack, on-level, on-round}
use Rattle.layout.proofs.Cursor.next.Goals as goal

pub returns-then-cursor-cluster-2 : goal.returns-then-cursor-cluster-2
returns-then-cursor-cluster-2 c t l e =
    on-round _ c.requires t e c.if-cursor-cluster.true c.if-cursor-cluster-2.true

pub returns-else-cursor-cluster-2 : goal.returns-else-cursor-cluster-2
returns-else-cursor-cluster-2 c t l e =
    on-level _ c.requires t e c.if-cursor-cluster.true (omega arith)

pub returns-else-cursor-cluster : goal.returns-else-cursor-cluster
returns-else-cursor-cluster c t l e =
    on-rack _ c.requires t e (omega arith)
