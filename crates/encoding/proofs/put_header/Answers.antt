-- `encoding::put_header` meets its contract: the numbers in their widths are the header's fields.
-- Assumes nothing.
use mathlib.Core.Path.{refl}
use native.Mathlib.Omega.{arith}
use Rattle.order.specs.Table.{joined}
use Rattle.encoding.specs.Pieces.{header_with, numbers_bytes}
use Rattle.encoding.proofs.put_header.Goals as goal

pub put_numbers-requires : goal.put_numbers-requires
unfolding header_with numbers_bytes joined
put_numbers-requires c = record { few = omega arith; as_many = refl; room = c.requires }

pub returns : goal.returns
unfolding header_with numbers_bytes joined
returns c = c.put_numbers.ensures
