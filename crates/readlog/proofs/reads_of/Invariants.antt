-- `readlog::reads_of` meets its contract: after i records the number found is how often the block stands among them.
-- Assumes nothing.
use Rattle.std.proofs.Common.{◌≡◌, ◌≤◌, take}
use Rattle.model.specs.ReadLog.{reads_of}
use Rattle.readlog.proofs.reads_of.Given as goal

abbrev pub invariant-loop-i : goal.invariant-loop-i
invariant-loop-i l = record {
  within : l.i ≤ l.count;
  found : l.found ≡ reads_of l.block (take l.i l.list);
}
