-- `convert::run` meets its contract: what is written is what the answer sends, and so what is due for the whole input.
-- Assumes nothing.
use Rattle.std.proofs.Common.{IfSome, rules, arith, option_map}
use Rattle.model.specs.Plan.{format_of}
use Rattle.model.specs.Conversion.{convert_verdict, converted_output, converted_errors}
use Rattle.input.specs.Input.{InputIs}
use Rattle.input.specs.Source.{source_bytes}
use Rattle.input.proofs.Streams.{due-written}
use Rattle.convert.specs.Output.{converted_stream, errors_of}
use Rattle.convert.proofs.ConvertsWhole.{converts-whole}
use Rattle.convert.proofs.run.Goals as goal

pub answer-answer-requires : goal.answer-answer-requires
unfolding format_of
answer-answer-requires g c = omega arith

pub returns-clause-output : goal.returns-clause-output
returns-clause-output g c =
    let came = option_map source_bytes c.in_ok-came.came in
    let told : IfSome (g.R.Read.remaining c.args.reader.now) (λ whole. InputIs came whole) = search rules in
    due-written (λ whole. converted_output (convert_verdict whole)) converted_stream converts-whole.output-is _ _ c.write.result _ came told c.write.ensures.output

pub returns-clause-errors : goal.returns-clause-errors
returns-clause-errors g c =
    let came = option_map source_bytes c.in_ok-came.came in
    let told : IfSome (g.R.Read.remaining c.args.reader.now) (λ whole. InputIs came whole) = search rules in
    due-written (λ whole. converted_errors (convert_verdict whole)) errors_of converts-whole.errors-is _ _ c.write.result _ came told c.write.ensures.errors
