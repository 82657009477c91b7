-- `records::Records::pair_byte` meets its contract: it is the record's last field.
-- Assumes nothing.
use Prim.Native.Nat.{◌+◌}
use native.Mathlib.Nat.{add_assoc}
use Rattle.model.specs.Plan.{block_in}
use Rattle.records.proofs.view.Records.pair_byte.Goals as goal

pub returns : goal.returns
unfolding block_in
returns c =
    let format = c.args.self.now.format in
    let r = c.record_at.result in
    rw (
      ← c.record_at.ensures.0,
      ← (add_assoc r (format.popularity_width + format.min_replicas_width) format.min_domains_width),
      ← (add_assoc r format.popularity_width format.min_replicas_width),
    ) c.byte_at.ensures.0
