-- `capi::bpl_counts` meets its contract: the entry's outcome, as a code and the counts.
-- Assumes nothing.
use mathlib.Core.Path.{refl}
use mathlib.Core.List.{[]}
use native.Mathlib.Omega.{arith}
use Rattle.service.specs.Entries.{counts_outcome}
use Rattle.interface.specs.Interface.{no_numbers}
use Rattle.codes.proofs.Laws.{effect-told, told-code}
use Rattle.capi.proofs.bpl_counts.Goals as goal

pub returns : goal.returns
unfolding counts_outcome
returns c =
    effect-told 0 no_numbers _ [] _ (counts_outcome _) _ _ [] (omega arith) c.counts-answer.ensures
    (rw c.tell.ensures (told-code counts_outcome (λ refusal items. refl) (λ n items. refl) _))
