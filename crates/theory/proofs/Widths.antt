-- The bounds of width, computed.
-- Assumes nothing.
use lib.Dec.{lit≤}
use Rattle.theory.specs.Widths.{WidthLaws}

pub width-laws : WidthLaws
width-laws = record { share-width = lit≤ tt; load-width = lit≤ tt; total-width = lit≤ tt }
