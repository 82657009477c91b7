-- `convert::errors` meets its contract: the line of a refusal fits, and it is the part that is handed on.
-- Assumes nothing.
use Rattle.std.proofs.Common.{ap, sym, ◌∙◌, arith}
use lib.Seq.{length-take-le}
use Rattle.model.specs.Listing.{refused_line}
use Rattle.theory.proofs.Listing.{refused_line-length, wrote-within, wrote-part}
use Rattle.text.proofs.Laws.{put-wrote}
use Rattle.convert.specs.Output.{answer_errors}
use Rattle.convert.proofs.errors.Goals as goal

pub returns-in_default : goal.returns-in_default
unfolding answer_errors
returns-in_default c = sym (ap answer_errors c.in_default.is)

pub put_line-size-requires : goal.put_line-size-requires
unfolding refused_line
put_line-size-requires c =
    let short = refused_line-length c.from.result (omega arith) in
    let long = c.requires in
    record { room = record { fits = omega arith }; numbers-max = omega arith }

pub slice_bounds-result-end-2 : goal.slice_bounds-result-end-2
slice_bounds-result-end-2 c =
    let wrote = put-wrote _ _ _ _ c.put_line-size.ensures in
    sym (length-take-le _ _ (wrote-within _ _ _ _ wrote))

pub returns : goal.returns
unfolding refused_line answer_errors
returns c =
    let code = c.from.ensures ∙ c.from-code.ensures in
    wrote-part _ _ _ _ (put-wrote _ _ _ _ c.put_line-size.ensures) ∙ ap refused_line code ∙ sym (ap answer_errors c.in-Err.is)
