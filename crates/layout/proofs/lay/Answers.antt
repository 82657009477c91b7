-- `layout::lay` meets its contract. The loop's invariant: as many copies as the loop has turned are laid.
-- Assumes nothing.
use mathlib.Core.Path.{◌≡◌}
use native.Mathlib.Omega.{arith}
use Rattle.layout.proofs.Laws.{laying-none, laying-circle, laying-fresh, laying-more, laying-all}
use Rattle.layout.proofs.lay.Goals as goal

pub loop-init : goal.loop-init
loop-init c = laying-none _ c.requires.circle

pub next-visit-requires : goal.next-visit-requires
next-visit-requires c =
    laying-circle _ c.requires.circle _ _ _ c.loop.invariant

pub with_bit-word-requires : goal.with_bit-word-requires
with_bit-word-requires c =
    laying-fresh _ c.requires.circle _ _ _ c.loop.invariant _ c.next-visit.ensures (omega arith)

pub loop-preserved : goal.loop-preserved
loop-preserved c =
    rw c.with_bit-word.ensures
    (laying-more _ c.requires.circle _ _ _ c.loop.invariant _ c.next-visit.ensures)

pub returns : goal.returns
returns c =
    let all : c.loop.counter ≡ c.args.count = omega arith in
    laying-all _ c.requires.circle _ _ _ (rw all at c.loop.invariant)
