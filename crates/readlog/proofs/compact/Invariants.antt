-- `readlog::compact` meets its contract: after i records the list and the number kept are those of `swept tick list i`, and a turn is one
-- more `sweep`, by the contract of `readwindow::is_current`.
-- Assumes nothing.
use Rattle.std.proofs.Common.{◌≡◌, ◌≤◌}
use Rattle.readlog.specs.Records.{swept}
use Rattle.readlog.proofs.compact.Given as goal

abbrev pub invariant-loop-i : goal.invariant-loop-i
invariant-loop-i l = record {
  most : l.kept ≤ l.i;
  list_is : l.list ≡ (swept l.tick l.fn.list l.i).list;
  kept_is : l.kept ≡ (swept l.tick l.fn.list l.i).kept;
}
