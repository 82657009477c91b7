-- `screen::no_exchange` meets its contract. The loop's invariant: the ranks of the words passed are swept.
-- Assumes nothing.
use mathlib.Core.Path.{◌≡◌}
use Prim.Native.Nat.{◌+◌, ◌*◌}
use native.Mathlib.Omega.{arith}
use Rattle.screen.specs.Screen.{ranked_on}
use Rattle.screen.proofs.Laws.{spot-word}
use Rattle.screen.proofs.no_exchange.Goals as goal

pub loop-word-preserved : goal.loop-word-preserved
loop-word-preserved c =
    let a = c.args in
    let index = a.index.now in
    let word = c.loop-word.word in
    let next : (word + 1) * 64 ≡ word * 64 + 64 = omega arith in
    rw next
    (c.in-Some.ensures (ranked_on index a.m) (ranked_on index a.n) a.cluster.blocks c.requires.rising
    (record { of-mine = spot-word index.by_rank a.m word; of-theirs = spot-word index.by_rank a.n word }) c.loop-word.invariant)
