-- `encoding::put_number` meets its contract: the bytes of n / 256 are put first, then the last one. The measure is the width.
-- Assumes nothing.
use Rattle.encoding.proofs.+put_number.Given as goal

abbrev pub decreases-put_number : goal.decreases-put_number
decreases-put_number l = l.width
