-- `convert::answer` meets its contract, arm by arm; a buffer with room for every new file is never too short.
-- Assumes nothing.
use Rattle.std.proofs.Common.{List, ℕ, refl, subst, arith}
use Rattle.input.specs.Input.{on_input}
use Rattle.convert.specs.Output.{output_for, errors_for, result_size, answer_errors, Sends}
use Rattle.convert.proofs.Laws.{convert_call-sends}
use Rattle.convert.proofs.answer.Goals as goal

pub returns-in-Some : goal.returns-in-Some
unfolding on_input
returns-in-Some c =
    let P : List ℕ → Type 0 = λ bytes. Sends c.convert.result c.convert.new.buffer (output_for bytes) (errors_for bytes) in
    rw c.in-Some.is (subst P c.bytes.ensures (convert_call-sends _ _ _ c.requires _ c.convert.ensures))

pub returns-in-None : goal.returns-in-None
unfolding on_input result_size answer_errors
returns-in-None c = rw c.in-None.is (record { within = omega arith; output-is = refl; errors-is = refl })
