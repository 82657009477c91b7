-- `search::find_row` meets its contract. The loop's invariant: the definition finds nothing at the machines passed.
-- Assumes nothing.
use Rattle.search.specs.Scene.{route_of}
use Rattle.search.proofs.Loops.{Passed}
use Rattle.search.proofs.find_row.Given as goal

abbrev pub invariant-loop-n : goal.invariant-loop-n
invariant-loop-n l =
    let held = l.scene.held in
    Passed held.cluster held.words.now held.profiles.now (λ p. route_of p held.words.now l.row.swapping l.row.across l.row.m) l.n
