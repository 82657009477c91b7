-- `search::find_kind` meets its contract. The loop's invariant: the definition finds nothing from the machines passed.
-- Assumes nothing.
use Rattle.search.specs.Scene.{row_of}
use Rattle.search.proofs.Loops.{Passed}
use Rattle.search.proofs.find_kind.Given as goal

abbrev pub invariant-loop-m : goal.invariant-loop-m
invariant-loop-m l =
    let held = l.scene.held in
    Passed held.cluster held.words.now held.profiles.now (λ p. row_of p held.words.now l.swapping l.across) l.m
