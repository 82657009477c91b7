-- `transfers::can_return` meets its contract: each early return is a part of the test that fails.
-- Assumes nothing.
use mathlib.Core.Path.{sym, ◌∙◌}
use Rattle.order.proofs.Booleans.{no-contradiction}
use Rattle.transfers.proofs.Laws.{lies_at}
use Rattle.transfers.proofs.can_return.Goals as goal

pub returns-then-not-returnable : goal.returns-then-not-returnable
returns-then-not-returnable c =
    let asked = c.requires in
    λ p count of. (
      λ e. no-contradiction (sym e),
      λ t.
          let passes = (c.returnable.ensures p (lies_at p count _ _ _ of _ asked.i-below)).1 t.back.test in
          no-contradiction (sym passes ∙ c.if-not-returnable.true),
    )

pub returns : goal.returns
returns c =
    let asked = c.requires in
    let free = c.is_free.ensures in
    λ p count of. (
      λ e.
          let told = c.returnable.ensures p (lies_at p count _ _ _ of _ asked.i-below) in
          record {
            back = record { holds = asked.holds; lacks = asked.lacks; test = told.0 c.if-not-returnable.false };
            free = free.0 e;
          },
      λ t. free.1 t.free,
    )
