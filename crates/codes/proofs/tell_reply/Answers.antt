-- `codes::tell_reply` meets its contract.
-- Assumes nothing.
use mathlib.Core.Path.{refl}
use Rattle.interface.specs.Interface.{reply_numbers}
use Rattle.codes.specs.Told.{reply_outcome}
use Rattle.codes.proofs.Laws.{told-answered}
use Rattle.codes.proofs.tell_reply.Goals as goal

pub returns : goal.returns
returns c =
    told-answered reply_numbers reply_outcome refl (λ words. refl) (rw c.reply_numbers-numbers.ensures at c.write_numbers.ensures)
