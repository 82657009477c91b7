-- `loads::sum_words` meets its contract. The loop's invariant: the arrays are the loads and copies of the words passed.
-- Assumes nothing.
use Rattle.loads.specs.Loads.{LoadsOf}
use Rattle.loads.proofs.Adding.{up_to}
use Rattle.loads.proofs.sum_words.Given as goal

abbrev pub invariant-loop-i : goal.invariant-loop-i
invariant-loop-i l = LoadsOf (up_to l.held.cluster l.i) l.held.words.now l.held.profiles.now l.load l.copies
