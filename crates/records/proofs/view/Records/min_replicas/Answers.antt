-- `records::Records::min_replicas` meets its contract: it is the field after the popularity.
-- Assumes nothing.
use Rattle.model.specs.Plan.{block_in}
use Rattle.theory.proofs.Plan.{field-narrow}
use Rattle.records.proofs.view.Records.min_replicas.Goals as goal

pub returns : goal.returns
unfolding block_in
returns c =
    let r = c.byte_at.ensures in
    (rw (← c.record_at.ensures.0) r.0, field-narrow _ _ 1 r.1 c.args.self.now.format.replicas_max)
