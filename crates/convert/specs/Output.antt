-- What the program writes to both streams for what it read, and that this is due for its whole input, however long.
use Rattle.std.specs.Prelude.{◌≡◌, List, [], ℕ, ◌≤◌, length, take, Option, Result, Ok, Err}
use Rattle.model.specs.Plan.{format_of, record_at}
use Rattle.model.specs.Refusal.{max_blocks}
use Rattle.model.specs.Listing.{refused_line}
use Rattle.model.specs.Conversion.{written_version, convert_verdict, converted_output, converted_errors}
use Rattle.refusal.specs.declared.Refusal.{Refusal}
use Rattle.refusal.specs.Rows.{number_of}
use Rattle.input.specs.Input.{on_input, InputIs}

-- What is due to standard output and to standard error for some bytes.
abbrev pub output_for : List ℕ → List ℕ
output_for bytes = converted_output (convert_verdict bytes)

abbrev pub errors_for : List ℕ → List ℕ
errors_for bytes = converted_errors (convert_verdict bytes)

-- The same for the bytes that came; nothing at all where a read failed.
abbrev pub converted_stream : Option (List ℕ) → List ℕ
converted_stream came = on_input [] output_for came

abbrev pub errors_of : Option (List ℕ) → List ℕ
errors_of came = on_input [] errors_for came

-- Bytes that every new file fits in: the largest plan of the version that is written. And every line of a refusal.
abbrev pub result_room : ℕ
result_room = record_at (format_of written_version) max_blocks

abbrev pub line_room : ℕ
line_room = 12

-- What an answer of the converter sends to the streams: so many bytes of the buffer, or a line.
unfoldable pub result_size : Result ℕ Refusal → ℕ
result_size (Err refusal) = 0
result_size (Ok size) = size

abbrev pub answer_output : Result ℕ Refusal → List ℕ → List ℕ
answer_output answer buffer = take (result_size answer) buffer

unfoldable pub answer_errors : Result ℕ Refusal → List ℕ
answer_errors (Err refusal) = refused_line (number_of refusal)
answer_errors (Ok size) = []

-- The answer with the buffer sends these bytes to standard output and to standard error.
pub record Sends (answer : Result ℕ Refusal) (buffer output errors : List ℕ) : Type 0 where
  pub within : result_size answer ≤ length buffer
  pub output-is : answer_output answer buffer ≡ output
  pub errors-is : answer_errors answer ≡ errors

-- What is written is what is due for the whole input.
pub record ConvertsWhole : Type 0 where
  pub output-is : (came : Option (List ℕ)) (whole : List ℕ) → InputIs came whole
      → converted_stream came ≡ converted_output (convert_verdict whole)
  pub errors-is : (came : Option (List ℕ)) (whole : List ℕ) → InputIs came whole
      → errors_of came ≡ converted_errors (convert_verdict whole)
