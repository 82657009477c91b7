-- `balance::find_next` meets its contract: the loads in the index are those of the placement.
-- Assumes nothing.
use mathlib.Core.Path.{refl}
use Rattle.balance.proofs.find_next.Goals as goal

pub find-requires : goal.find-requires
find-requires c =
    record { all = record { copies = _; loads-of = rw c.requires.loads-in c.requires.asked.loads-of }; copies-are = refl }
