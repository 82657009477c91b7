-- `search::of_kind` meets its contract: n is before, after or in the rack of m.
-- Assumes nothing.
use Rattle.search.proofs.Laws.{beq-true, beq-false, apart-before, apart-after, apart-inside}
use native.Mathlib.Omega.{arith}
use Rattle.search.proofs.of_kind.Goals as goal

pub returns-then-n-low : goal.returns-then-n-low
returns-then-n-low c =
    λ m e.
    let l = rw e at c.if-n-low.true in
    rw (apart-before c.args.size m c.args.n c.requires.size-pos l) (beq-true c.args.across)

pub returns-then-low-size : goal.returns-then-low-size
returns-then-low-size c =
    λ m e.
    let l = rw e at c.if-low-size.true in
    rw (apart-after c.args.size m c.args.n c.requires.size-pos (omega arith)) (beq-true c.args.across)

pub returns : goal.returns
returns c =
    λ m e.
    let l = rw e at c.if-n-low.false in
    let h = rw e at c.if-low-size.false in
    rw (apart-inside c.args.size m c.args.n c.requires.size-pos (omega arith) (omega arith)) (beq-false c.args.across)
