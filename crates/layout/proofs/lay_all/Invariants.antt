-- `layout::lay_all` meets its contract. The loop's invariant: the words of the blocks passed are laid, and the cursor stands past them.
-- Assumes nothing.
use mathlib.Core.Path.{◌≡◌}
use lib.ListN.{length}
use Rattle.order.specs.Table.{filled}
use Rattle.model.specs.Plan.{Plan}
use Rattle.model.specs.Replication.{chosen}
use Rattle.model.specs.Placement.{first_word}
use Rattle.cluster.specs.Blocks.{ProfilesOf}
use Rattle.layout.proofs.Laws.{cursor_for}
use Rattle.layout.proofs.lay_all.Given as goal

abbrev pub invariant-loop-i : goal.invariant-loop-i
invariant-loop-i l =
    (length l.words ≡ length l.initial.words)
    × ((p : Plan) → ProfilesOf p (chosen p) l.fn.cluster l.profiles
    → (l.words ≡ filled l.i (first_word p) l.initial.words) × (l.cursor ≡ cursor_for p l.fn.cluster l.i))
