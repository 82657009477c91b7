-- An answer of a size, told as a number.
-- Assumes nothing.
use mathlib.Core.Path.{◌≡◌, ap}
use Prim.Native.Nat.{ℕ}
use Rattle.std.specs.Prelude.{Result, Ok, Err}
use Rattle.std.specs.Result.{MatchResult, IsOkAnd}
use Rattle.refusal.specs.declared.Refusal.{Refusal}

given_as : (mapped : Result ℕ Refusal) (n : ℕ) → IsOkAnd mapped (λ m. m ≡ n) → mapped ≡ Ok n
given_as (Ok m) n told = ap Ok told
given_as (Err refusal) n told = absurd told

pub same_number : (answer mapped : Result ℕ Refusal) (Gives : ℕ → Type 0) → MatchResult answer Gives (λ refusal. mapped ≡ Err refusal)
    → ((n : ℕ) → Gives n → IsOkAnd mapped (λ m. m ≡ n)) → mapped ≡ answer
same_number (Err refusal) mapped Gives told same = told
same_number (Ok n) mapped Gives told same = given_as mapped n (same n told)
