-- `service::write_counts` meets its contract. The loop's invariant: the counts of the blocks passed are written.
-- Assumes nothing.
use mathlib.Core.Path.{◌≡◌, refl}
use native.Mathlib.Omega.{arith}
use lib.ListN.{length-set}
use Rattle.order.proofs.Tables.{filled_none, filled_more}
use Rattle.service.proofs.write_counts.Goals as goal

pub loop-i-init : goal.loop-i-init
loop-i-init c = (refl, filled_none _ _)

pub loop-i-preserved : goal.loop-i-preserved
loop-i-preserved c =
    let inv = c.loop-i.invariant in (
      simp length-set inv.0,
      filled_more c.loop-i.i _ _ _ _ inv.1 (omega (arith, c.requires.count_room)) c.count_of.ensures,
    )

pub returns : goal.returns
returns c =
    let all : c.loop-i.i ≡ c.args.cluster.blocks = omega arith in
    rw all at c.loop-i.invariant.1
