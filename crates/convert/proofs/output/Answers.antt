-- `convert::output` meets its contract: so many bytes of the buffer as the answer says, none after a refusal.
-- Assumes nothing.
use Rattle.std.proofs.Common.{ap, sym, ℕ, Result}
use lib.Seq.{length-take-le}
use Rattle.refusal.specs.declared.Refusal.{Refusal}
use Rattle.convert.specs.Output.{result_size, answer_output}
use Rattle.convert.proofs.output.Goals as goal

pub slice_bounds-result-end-in-Ok : goal.slice_bounds-result-end-in-Ok
unfolding result_size
slice_bounds-result-end-in-Ok c = sym (length-take-le _ c.args.buffer.now (rw c.in-Ok.is at c.requires))

pub returns-in-Err : goal.returns-in-Err
unfolding result_size
returns-in-Err c = sym (ap (λ (a : Result ℕ Refusal). answer_output a c.args.buffer.now) c.in-Err.is)

pub returns-in-Ok : goal.returns-in-Ok
unfolding result_size
returns-in-Ok c = sym (ap (λ (a : Result ℕ Refusal). answer_output a c.args.buffer.now) c.in-Ok.is)
