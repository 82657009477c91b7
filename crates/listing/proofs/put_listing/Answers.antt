-- `listing::put_listing` meets its contract: the lines of the run are the listing.
-- Assumes nothing.
use native.Mathlib.Omega.{arith}
use Rattle.listing.proofs.Laws.{whole_room, whole-put}
use Rattle.listing.proofs.put_listing.Goals as goal

pub invariant_of-held : goal.invariant_of-held
invariant_of-held c = record { fits = c.run_first-made.ensures.fits }

pub put_lines-requires : goal.put_lines-requires
put_lines-requires c = whole_room _ _ _ _ _ _ c.run_first-made.ensures (omega (arith, c.ranges.limit)) _ c.requires.0

pub returns : goal.returns
returns c = whole-put _ _ _ _ _ _ c.run_first-made.ensures c.put_lines.ensures
