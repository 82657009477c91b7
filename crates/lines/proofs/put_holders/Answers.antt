-- `lines::put_holders` meets its contract. The loop's invariant: the fields put and those of the bits that are left are the word's.
-- Assumes nothing.
use mathlib.Core.Path.{refl}
use mathlib.Core.List.{[], ◌++◌}
use Rattle.model.specs.Listing.{number_field}
use Rattle.text.proofs.Laws.{put-none}
use Rattle.lines.proofs.Laws.{holder-parts, holder-room, holder-put, holders-done}
use Rattle.lines.proofs.put_holders.Goals as goal

pub loop-m-init : goal.loop-m-init
loop-m-init c = rw (c.into_iter-m-iterator.ensures.into_iter_gives, c.ones-m-items.ensures) ([], refl, put-none _ _)

pub put_field-next-requires : goal.put_field-next-requires
put_field-next-requires c =
    let inv = c.loop-m.invariant in
    holder-room _ _ _ _ _ _ c.requires c.in-Some.ensures.steps.0 inv.1 inv.2

pub loop-m-preserved : goal.loop-m-preserved
loop-m-preserved c =
    let inv = c.loop-m.invariant in
    let one = c.in-Some.ensures.steps in
    rw one.1 (
      inv.0 ++ number_field c.in-Some.m,
      holder-parts _ _ _ _ inv.0 _ c.requires one.0 inv.1,
      holder-put _ _ _ _ inv.0 _ c.requires one.0 inv.1 inv.2 c.put_field-next.ensures,
    )

pub returns : goal.returns
returns c =
    let inv = c.loop-m.invariant in
    rw (← inv.1, c.in-None.ensures.steps.0, holders-done inv.0) inv.2
