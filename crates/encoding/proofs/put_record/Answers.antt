-- `encoding::put_record` meets its contract: the numbers in their widths are the block's record.
-- Assumes nothing.
use mathlib.Core.Path.{refl}
use native.Mathlib.Omega.{arith}
use Rattle.encoding.specs.Widths.{as_widths}
use Rattle.encoding.proofs.Laws.{room-same, put_same, record_bytes-numbers}
use Rattle.encoding.proofs.put_record.Goals as goal

pub put_numbers-requires : goal.put_numbers-requires
put_numbers-requires c =
    -- the numbers that were read, in the new widths
    let numbers-are = record_bytes-numbers (as_widths c.args.new) _ _ _ _ _
    c.popularity.ensures.0 c.min_replicas.ensures.0 c.min_domains.ensures.0 c.pair_byte.ensures in
    record { few = omega arith; as_many = refl; room = room-same numbers-are c.requires.1 }

pub returns : goal.returns
returns c =
    let numbers-are = record_bytes-numbers (as_widths c.args.new) _ _ _ _ _
    c.popularity.ensures.0 c.min_replicas.ensures.0 c.min_domains.ensures.0 c.pair_byte.ensures in
    put_same numbers-are c.put_numbers.ensures
