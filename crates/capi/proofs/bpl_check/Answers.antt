-- `capi::bpl_check` meets its contract: the entry's outcome, as a code.
-- Assumes nothing.
use mathlib.Core.Path.{refl}
use mathlib.Core.List.{[]}
use native.Mathlib.Omega.{arith}
use Rattle.service.specs.Entries.{check_outcome}
use Rattle.interface.specs.Interface.{no_numbers}
use Rattle.codes.proofs.Laws.{effect-told, told-code}
use Rattle.capi.proofs.bpl_check.Goals as goal

pub returns : goal.returns
unfolding check_outcome
returns c =
    effect-told 0 no_numbers _ [] _ (check_outcome _) _ _ [] (omega arith) c.check-answer.ensures
    (rw c.tell.ensures (told-code check_outcome (λ refusal items. refl) (λ n items. refl) _))
