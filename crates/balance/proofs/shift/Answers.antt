-- `balance::shift` meets its contract: the word is the model's shifted word, and the sums over the words follow the copy.
-- Assumes nothing.
use mathlib.Core.Path.{ap}
use Prim.Native.Nat.{ℕ}
use lib.ListN.{set}
use Rattle.model.specs.Steps.{after_move}
use Rattle.balance.proofs.Laws.{loads-asked, shifted-words}
use Rattle.balance.proofs.shift.Goals as goal

pub shift-requires : goal.shift-requires
shift-requires c =
    let pre = c.requires in
    rw c.share_of.ensures (loads-asked pre.asked pre.copy)

pub returns : goal.returns
unfolding after_move
returns c =
    let a = c.args in
    shifted-words
    (ap (λ (w : ℕ). set a.words.now a.i w) c.shift_bit.ensures)
    (rw c.share_of.ensures at c.shift.ensures)
