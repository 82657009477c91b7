-- `capi::bpl_popularity` meets its contract: a short out first, then the entry's outcome, as a code and the popularity over out.
-- Assumes nothing.
use mathlib.Core.Path.{refl}
use native.Mathlib.Omega.{arith}
use Rattle.reads.specs.Answers.{reads_outcome}
use Rattle.interface.specs.Interface.{one_number}
use Rattle.codes.proofs.Laws.{effect-told, told-number}
use Rattle.capi.proofs.bpl_popularity.Goals as goal

pub returns : goal.returns
unfolding reads_outcome
returns c =
    effect-told 1 one_number _ _ _ (reads_outcome _) _ _ _ (omega arith) c.popularity-answer.ensures
    (told-number reads_outcome (λ refusal items. refl) (λ n items. refl) _ _ _ _ c.tell_number.ensures)
