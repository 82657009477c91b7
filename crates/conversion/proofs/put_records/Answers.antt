-- `conversion::put_records` meets its contract. The loop's invariant: the new records of the blocks passed stand in the buffer.
-- Assumes nothing.
use mathlib.Core.Path.{◌≡◌}
use mathlib.Core.List.{List}
use Prim.Native.Nat.{ℕ, ◌<◌}
use native.Mathlib.Omega.{arith}
use Rattle.order.specs.Table.{joined}
use Rattle.order.proofs.Tables.{joined-zero}
use Rattle.model.specs.Plan.{Format}
use Rattle.text.specs.Pasted.{Room}
use Rattle.text.proofs.Laws.{put-none, joined-room, joined-put}
use Rattle.plan.specs.declared.passed.Accepted.{Accepted}
use Rattle.plan.specs.Verdict.{accepted_plan}
use Rattle.conversion.specs.Pieces.{new_records}
use Rattle.encoding.proofs.Laws.{room-same, put_same}
use Rattle.conversion.proofs.Laws.{renewed, new_records-read, renewed-block}
use Rattle.conversion.proofs.put_records.Goals as goal

-- room for all new records
all_room : (a : Accepted) (new : Format) (at : ℕ) (buffer : List ℕ) → Room at (new_records new (accepted_plan a)) buffer
    → Room at (joined a.header.cluster.blocks (renewed new a.records.bytes.now)) buffer
all_room a new at buffer room = rw (new_records-read a new) at room

pub loop-i-init : goal.loop-i-init
loop-i-init c = rw (joined-zero _) (put-none _ _)

pub put_record-next-requires : goal.put_record-next-requires
put_record-next-requires c =
    let l = c.loop-i-test.true in
    let r = c.reread-records in
    let within : c.loop-i.i < c.args.plan.now.header.cluster.blocks = rw r.ensures.1 at l in (
      l,
      room-same (renewed-block r.result r.ensures.2 _ r.ensures.0 _ _ l)
          (joined-room _ _ _ _ _ (all_room c.args.plan.now _ _ _ c.requires) within c.loop-i.invariant),
    )

pub loop-i-preserved : goal.loop-i-preserved
loop-i-preserved c =
    let l = c.loop-i-test.true in
    let r = c.reread-records in
    let within : c.loop-i.i < c.args.plan.now.header.cluster.blocks = rw r.ensures.1 at l in
    joined-put _ _ _ _ _ (all_room c.args.plan.now _ _ _ c.requires) within c.loop-i.invariant
    (put_same (renewed-block r.result r.ensures.2 _ r.ensures.0 _ _ l) c.put_record-next.ensures)

pub returns : goal.returns
returns c =
    let all : c.loop-i.i ≡ c.args.plan.now.header.cluster.blocks = omega (arith, c.reread-records.ensures.1) in
    rw (new_records-read c.args.plan.now _) (rw all at c.loop-i.invariant)
