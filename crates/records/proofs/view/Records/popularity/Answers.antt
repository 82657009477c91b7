-- `records::Records::popularity` meets its contract: it is the field at the record's start, whether the width is named or not.
-- Assumes nothing.
use native.Mathlib.Omega.{arith}
use Rattle.model.specs.Plan.{block_in}
use Rattle.theory.specs.Widths.{widest_popularity}
use Rattle.theory.proofs.Plan.{field-narrow}
use Rattle.records.proofs.view.Records.popularity.Goals as goal

pub returns-then-self-eq3 : goal.returns-then-self-eq3
unfolding block_in
returns-then-self-eq3 c =
    let r = c.field_at.ensures in
    (rw (← c.record_at-at.ensures.0, c.if-self-eq3.true) r.0, field-narrow _ 3 widest_popularity r.1 (omega arith))

pub returns-then-self-eq4 : goal.returns-then-self-eq4
unfolding block_in
returns-then-self-eq4 c =
    let r = c.field_at-then-self-eq4.ensures in
    (rw (← c.record_at-at.ensures.0, c.if-self-eq4.true) r.0, field-narrow _ 4 widest_popularity r.1 (omega arith))

pub returns : goal.returns
unfolding block_in
returns c =
    let r = c.field_at-2.ensures in
    let fits = c.args.self.now.format in
    (rw (← c.record_at-at.ensures.0) r.0, field-narrow _ _ _ r.1 fits.popularity_max)
