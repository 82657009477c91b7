-- `lines::put_holders` meets its contract. The loop's invariant: the fields put and those of the bits that are left are the word's.
-- Assumes nothing.
use mathlib.Core.Path.{◌≡◌}
use mathlib.Core.List.{List, ◌++◌}
use Prim.Native.Nat.{ℕ}
use Rattle.model.specs.Refusal.{max_machines}
use Rattle.model.specs.Listing.{fields, holders}
use Rattle.text.specs.Pasted.{Put}
use Rattle.lines.proofs.put_holders.Given as goal

abbrev pub invariant-loop-m : goal.invariant-loop-m
invariant-loop-m l =
    let rest = l.m-iterator.rest in
    (done : List ℕ) × (done ++ fields (holders rest max_machines) ≡ fields (holders l.word max_machines)) × Put l.at done l.initial.text l.text l.next
