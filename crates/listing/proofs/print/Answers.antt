-- `listing::print` meets its contract: a short text first, then the line of a refused plan, or the listing of an accepted one.
-- Assumes nothing.
use Rattle.std.proofs.Common.{ℕ, List, ap, sym, ◌∙◌, arith}
use Rattle.std.proofs.lemmas.Result.{err_from_is_err_and}
use Rattle.model.specs.Listing.{refused_line, wrote}
use Rattle.theory.proofs.Listing.{refused_line-length, printed-refused, printed-accepted, print_call-short, print_call-made}
use Rattle.plan.specs.Verdict.{verdict_of}
use Rattle.refusal.specs.Rows.{code_of}
use Rattle.listing.specs.Entries.{listing_outcome}
use Rattle.text.proofs.Laws.{put-wrote}
use Rattle.listing.proofs.print.Goals as goal

pub returns-in_err-check_room : goal.returns-in_err-check_room
unfolding listing_outcome
returns-in_err-check_room c =
    let p = err_from_is_err_and c.from_residual.result c.from_residual.ensures.1 in
    let short = c.in_err-check_room.ensures in
    rw (p.1, p.2, short.1) (sym (print_call-short _ _ _ short.0))

pub put_line-requires : goal.put_line-requires
unfolding refused_line
put_line-requires c =
    let short = refused_line-length c.from.result (omega arith) in
    let long = c.in_ok-check_room.ensures in
    record { room = record { fits = omega arith }; numbers-max = omega arith }

pub returns-in_default : goal.returns-in_default
unfolding refused_line verdict_of listing_outcome
returns-in_default c =
    put-wrote _ _ _ _ c.put_line.ensures
    ∙ ap (λ (n : ℕ). wrote (refused_line n) c.args.text.now) (c.from.ensures ∙ c.refusal_code-code.ensures ∙ ap code_of c.in_default.is)
    ∙ ap (λ (out : List ℕ). wrote out c.args.text.now) (sym (printed-refused _ _ _ (sym c.in_default.ensures.judged)))
    ∙ sym (print_call-made _ _ _ c.in_ok-check_room.ensures)

pub returns : goal.returns
unfolding verdict_of listing_outcome
returns c =
    put-wrote _ _ _ _ c.list_accepted.ensures
    ∙ ap (λ (out : List ℕ). wrote out c.args.text.now) (sym (printed-accepted _ _ _ (sym c.in-Ok.ensures.judged)))
    ∙ sym (print_call-made _ _ _ c.in_ok-check_room.ensures)
