-- `records::Records::min_domains` meets its contract: it is the field after the least copies.
-- Assumes nothing.
use native.Mathlib.Nat.{add_assoc}
use Rattle.model.specs.Plan.{block_in}
use Rattle.theory.proofs.Plan.{field-narrow}
use Rattle.records.proofs.view.Records.min_domains.Goals as goal

pub returns : goal.returns
unfolding block_in
returns c =
    let r = c.byte_at.ensures in
    let format = c.args.self.now.format in (
      rw (← c.record_at.ensures.0, ← (add_assoc c.record_at.result format.popularity_width format.min_replicas_width))
          r.0,
      field-narrow _ _ 1 r.1 format.domains_max,
    )
