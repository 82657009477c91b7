-- `listing::listing` meets its contract: a short text first, then a refused plan, and an accepted one is listed.
-- Assumes nothing.
use Rattle.std.proofs.Common.{sym, ◌∙◌}
use Rattle.std.proofs.lemmas.Result.{err_from_is_err_and}
use Rattle.theory.proofs.Listing.{listing_call-short, listing_call-refused, listing_call-made}
use Rattle.plan.specs.Verdict.{verdict_of}
use Rattle.listing.specs.Entries.{listing_outcome}
use Rattle.text.proofs.Laws.{put-wrote}
use Rattle.listing.proofs.listing.Goals as goal

pub returns-in_err-check_room : goal.returns-in_err-check_room
unfolding listing_outcome
returns-in_err-check_room c =
    let p = err_from_is_err_and c.from_residual.result c.from_residual.ensures.1 in
    let short = c.in_err-check_room.ensures in
    rw (p.1, p.2, short.1) (sym (listing_call-short _ _ _ short.0))

pub returns-in_err-plan : goal.returns-in_err-plan
unfolding listing_outcome verdict_of
returns-in_err-plan c =
    let p = err_from_is_err_and c.from_residual-in_err-plan.result c.from_residual-in_err-plan.ensures.1 in
    rw (p.1, p.2) (sym (listing_call-refused _ _ _ _ c.in_ok-check_room.ensures (sym c.in_err-plan.ensures.judged)))

pub returns : goal.returns
unfolding verdict_of listing_outcome
returns c =
    put-wrote _ _ _ _ c.list_accepted.ensures
    ∙ sym (listing_call-made _ _ _ _ c.in_ok-check_room.ensures (sym c.in_ok-plan.ensures.judged))
