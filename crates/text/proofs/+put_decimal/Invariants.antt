-- `text::put_decimal` meets its contract: the digits of n / 10 are put first, then the last one. The measure is n.
-- Assumes nothing.
use Rattle.text.proofs.+put_decimal.Given as goal

abbrev pub decreases-put_decimal : goal.decreases-put_decimal
decreases-put_decimal l = l.n
