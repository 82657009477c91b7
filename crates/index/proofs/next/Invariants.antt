-- `index::next` meets its contract. The loop's invariant: no block passed is held by m and not by n; a turn passes the rest of
-- one word of the index.
-- Assumes nothing.
use Prim.Native.Nat.{◌-◌, ◌≤◌}
use Rattle.index.specs.Index.{NoneFree}
use Rattle.index.proofs.next.Given as goal

abbrev pub invariant-loop-k : goal.invariant-loop-k
invariant-loop-k l =
    (l.from ≤ l.k) × NoneFree l.part l.m l.n l.from l.k

abbrev pub decreases-loop-k : goal.decreases-loop-k
decreases-loop-k l = l.cluster.blocks - l.k
