-- `header::Fields::header` meets its contract.
-- Assumes nothing.
use mathlib.Core.Path.{ap, ◌∙◌}
use Prim.Native.Nat.{◌+◌}
use Rattle.model.specs.Plan.{Format, field}
use Rattle.header.specs.Header.{header_counted}
use Rattle.header.proofs.front.Fields.header.Goals as goal

pub returns : goal.returns
unfolding header_counted
returns c =
    let bytes = c.args.self.bytes.now in
    let format = c.args.self.format_is in
    let capacity = c.field_at-3.ensures.0 ∙ ap (λ (f : Format). field bytes (7 + f.feeds_width) 2) format in
    let budget = c.field_at-5.ensures.0 ∙ ap (λ (f : Format). field bytes (9 + f.feeds_width) 4) format in (
      rw (
        c.field_at.ensures.0,
        c.field_at-2.ensures.0,
        c.feeds.ensures,
        capacity,
        c.count.ensures,
        c.field_at-4.ensures.0,
        budget,
      ),
      record { racks-narrow = c.field_at.ensures.1; size-narrow = c.field_at-2.ensures.1 },
    )
