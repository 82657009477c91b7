-- `capi::bpl_listing` meets its contract: a short out first, then the entry's outcome, as a code, the text and its size over out.
-- Assumes nothing.
use mathlib.Core.Path.{◌≡◌, refl}
use native.Mathlib.Omega.{arith}
use Rattle.listing.specs.Entries.{listing_outcome}
use Rattle.interface.specs.Interface.{one_number}
use Rattle.std.proofs.Common.{rules, tests}
use Rattle.capi.proofs.Numbers.{same_number}
use Rattle.codes.proofs.Laws.{effect-told, told-number}
use Rattle.capi.proofs.bpl_listing.Goals as goal

pub returns : goal.returns
unfolding listing_outcome
returns c =
    let same : c.map.result ≡ c.listing-answer.result =
    same_number _ _ _ c.map.ensures.cases (λ n told. search (rules, tests)) in
    effect-told 1 one_number _ _ _ (listing_outcome _) _ _ _ (omega arith) c.listing-answer.ensures
    (told-number listing_outcome (λ refusal items. refl) (λ n items. refl) _ _ _ _ (rw same at c.tell_number.ensures))
