-- `capi::bpl_first` meets its contract: the entry's outcome, as a code and the words.
-- Assumes nothing.
use mathlib.Core.Path.{refl}
use mathlib.Core.List.{[]}
use native.Mathlib.Omega.{arith}
use Rattle.service.specs.Entries.{first_outcome}
use Rattle.interface.specs.Interface.{no_numbers}
use Rattle.codes.proofs.Laws.{effect-told, told-code}
use Rattle.capi.proofs.bpl_first.Goals as goal

pub returns : goal.returns
unfolding first_outcome
returns c =
    effect-told 0 no_numbers _ [] _ (first_outcome _) _ _ [] (omega arith) c.first-answer.ensures
    (rw c.tell.ensures (told-code first_outcome (λ refusal items. refl) (λ n items. refl) _))
