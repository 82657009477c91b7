-- `screen::no_exchange` meets its contract. The loop's invariant: the ranks of the words passed are swept.
-- Assumes nothing.
use Prim.Native.Nat.{◌*◌}
use Rattle.screen.specs.Screen.{ranked_on, SweptBelow}
use Rattle.screen.proofs.no_exchange.Given as goal

abbrev pub invariant-loop-word : goal.invariant-loop-word
invariant-loop-word l =
    SweptBelow (ranked_on l.index l.m) (ranked_on l.index l.n) l.index l.margin l.fn.cluster.blocks (l.word * 64) l.sweep.top l.sweep.reach l.sweep.under
