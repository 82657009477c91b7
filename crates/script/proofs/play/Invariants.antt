-- `script::play` meets its contract. The loop's invariant: the calls that are left, played from the last reply and the words, end as
-- the whole script does.
-- Assumes nothing.
use mathlib.Core.Path.{◌≡◌}
use lib.ListN.{length}
use Rattle.script.proofs.Laws.{Left}
use Rattle.script.proofs.play.Given as goal

abbrev pub invariant-loop-item : goal.invariant-loop-item
invariant-loop-item l =
    (length l.words ≡ length l.initial.words) × Left l.bytes l.other l.script l.initial.words l.reply l.words l.item-index
