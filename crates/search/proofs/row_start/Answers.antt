-- `search::row_start` meets its contract.
-- Assumes nothing.
use native.Mathlib.Nat.{div-add-mod'}
use native.Mathlib.Omega.{arith}
use Rattle.search.proofs.Laws.{apart-before}
use Rattle.search.proofs.row_start.Goals as goal

-- machines before m's rack lie in other racks
pub returns : goal.returns
returns c k range in_row =
    let m = c.args.row.m in (
      omega (arith, in_row.low-is, in_row.m-below, div-add-mod' m k.rack_size),
      λ n l. rw (c.if-row.false, apart-before k.rack_size m n range.size-pos (rw in_row.low-is at l)),
    )
