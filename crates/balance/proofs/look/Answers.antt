-- `balance::look` meets its contract: the search over the index of the words and the loads finds the next step.
-- Assumes nothing.
use mathlib.Core.Path.{refl}
use Rattle.index.proofs.Laws.{indexed-loaded}
use Rattle.balance.proofs.look.Goals as goal

pub find_next-requires : goal.find_next-requires
find_next-requires c =
    record { asked = c.requires.asked; indexed = indexed-loaded _ (c.fill.ensures _ c.requires.ordered); loads-in = refl }

pub returns : goal.returns
returns c = (c.find_next.ensures, (indexed-loaded _ (c.fill.ensures _ c.requires.ordered)).ordered)
