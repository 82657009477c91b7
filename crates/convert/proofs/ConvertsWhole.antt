-- The program writes what is due for its whole input: a full buffer holds more than any plan, so what lies behind it changes no verdict.
-- Assumes nothing.
use mathlib.Core.Path.{ap}
use mathlib.Core.List.{List, []}
use Prim.Native.Nat.{ℕ}
use Rattle.model.specs.Conversion.{converted_output, converted_errors}
use Rattle.theorems.proofs.Conversion.{conversions}
use Rattle.input.proofs.OnWhole.{on-whole}
use Rattle.convert.specs.Output.{output_for, errors_for, ConvertsWhole}

pub converts-whole : ConvertsWhole
converts-whole =
    record {
      output-is = on-whole (List ℕ) [] output_for (λ whole long. ap converted_output (conversions.long whole long));
      errors-is = on-whole (List ℕ) [] errors_for (λ whole long. ap converted_errors (conversions.long whole long));
    }
