-- `text::put_word` meets its contract. The loop's invariant: the bytes passed stand in the text.
-- Assumes nothing.
use mathlib.Core.Path.{◌≡◌}
use Prim.Native.Nat.{◌+◌}
use lib.ListN.{length, take}
use Rattle.text.specs.Pasted.{Put}
use Rattle.text.proofs.put_word.Given as goal

abbrev pub invariant-loop-i : goal.invariant-loop-i
invariant-loop-i l =
    (length l.text ≡ length l.initial.text) × Put l.at (take l.i l.word) l.initial.text l.text (l.at + l.i)
