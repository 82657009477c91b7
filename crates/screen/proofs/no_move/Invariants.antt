-- `screen::no_move` meets its contract. The loop's invariant: every candidate below k has the share 0. The first other has the
-- smallest share of the rest.
-- Assumes nothing.
use mathlib.Core.Path.{◌≡◌}
use Prim.Native.Nat.{ℕ, ◌-◌, ◌<◌, ◌≤◌}
use Rattle.index.specs.Index.{share_at}
use Rattle.screen.specs.Screen.{ranked_on, Alone}
use Rattle.screen.proofs.no_move.Given as goal

abbrev pub invariant-loop-rank : goal.invariant-loop-rank
invariant-loop-rank l =
    (l.k ≤ l.cluster.blocks)
    × ((x : ℕ) → x < l.k → x < l.cluster.blocks → Alone (ranked_on l.index l.m) (ranked_on l.index l.n) x → share_at l.index x ≡ 0)

abbrev pub decreases-loop-rank : goal.decreases-loop-rank
decreases-loop-rank l = l.cluster.blocks - l.k
