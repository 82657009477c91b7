-- `balance::run_ordered` meets its contract. The loop's invariant: the loads are the words', and the run is the steps taken and the run that is left.
-- Assumes nothing.
use Rattle.balance.specs.Standing.{OrderedAsked}
use Rattle.balance.proofs.Laws.{Along}
use Rattle.balance.proofs.run_ordered.Given as goal

abbrev pub invariant-loop-steps : goal.invariant-loop-steps
invariant-loop-steps l =
    Along l.cluster l.initial.words l.profiles l.limit l.steps l.words × OrderedAsked l.cluster l.words l.profiles l.index l.loads
