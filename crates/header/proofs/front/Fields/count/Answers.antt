-- `header::Fields::count` meets its contract.
-- Assumes nothing.
use mathlib.Core.Path.{◌∙◌}
use borrow.Author.Tests.{lt-ltb, le-ltb}
use Rattle.header.specs.Header.{counted_blocks}
use Rattle.header.proofs.front.Fields.count.Goals as goal

pub returns-then-self : goal.returns-then-self
unfolding counted_blocks
returns-then-self c = rw (← c.args.self.format_is, lt-ltb _ _ c.if-self.true)

pub returns : goal.returns
unfolding counted_blocks
returns c =
    c.field_at.ensures.0 ∙ (rw (← c.args.self.format_is, le-ltb _ _ c.if-self.false))
