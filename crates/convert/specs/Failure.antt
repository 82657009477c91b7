-- What the program's failures say.
use Rattle.std.specs.Prelude.{Result, Ok, Err}
use Rattle.convert.specs.declared.Failure.{Failure}
use Rattle.convert.specs.declared.Failure.TheVariants.{Input, Output, Errors}

-- p, where it is standard input that failed.
abbrev pub OnInputFailure : {U : Type 0} → Result U Failure → Type 0 → Type 0
OnInputFailure (Ok u) p = Unit {0}
OnInputFailure (Err (Input error)) p = p
OnInputFailure (Err (Output error)) p = Unit {0}
OnInputFailure (Err (Errors error)) p = Unit {0}

-- It is standard input that failed.
abbrev pub IsInputFailure : {U : Type 0} → Result U Failure → Type 0
IsInputFailure (Ok u) = ⊥
IsInputFailure (Err (Input error)) = Unit {0}
IsInputFailure (Err (Output error)) = ⊥
IsInputFailure (Err (Errors error)) = ⊥
