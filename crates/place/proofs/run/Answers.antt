-- `place::run` meets its contract: what is written is what is printed for the bytes that came, and so for the whole input.
-- Assumes nothing.
use Rattle.std.proofs.Common.{IfSome, rules, option_map}
use Rattle.model.specs.Listing.{printed, step_limit}
use Rattle.input.specs.Input.{InputIs}
use Rattle.input.specs.Source.{source_bytes}
use Rattle.input.proofs.Streams.{due-written}
use Rattle.place.specs.Output.{listed_output}
use Rattle.place.proofs.ListsWhole.{lists-whole}
use Rattle.place.proofs.run.Goals as goal

pub returns-clause-output : goal.returns-clause-output
returns-clause-output g c =
    let came = option_map source_bytes c.in_ok-came.came in
    let told : IfSome (g.R.Read.remaining c.args.reader.now) (λ whole. InputIs came whole) = search rules in
    due-written (λ whole. printed whole step_limit) listed_output lists-whole _ _ c.write.result _ came told c.write.ensures.output
