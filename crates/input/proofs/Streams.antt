-- What a program writes for what came of the input is what is due for the whole input, where that is known.
-- Assumes nothing.
use Rattle.std.proofs.Common.{◌≡◌, ℕ, List, None, Some, IfSome, Result, Ok, Err, OnOk, subst}
use Rattle.std.specs.declared.option.Option.{Option}
use Rattle.std.specs.Io.KnownBytes.{Appends}
use Rattle.input.specs.Input.{InputIs}

module _ (due : List ℕ → List ℕ) (stream : Option (List ℕ) → List ℕ)
    (law : (came : Option (List ℕ)) (whole : List ℕ) → InputIs came whole → stream came ≡ due whole) where
  due-known : (known came : Option (List ℕ)) → IfSome known (λ whole. InputIs came whole) → IfSome known (λ whole. stream came ≡ due whole)
  due-known None came told = tt
  due-known (Some whole) came told = law came whole told

  module _ {U E : Type 0} (old new : Option (List ℕ)) where
    same-written : (r : Result U E) (known : Option (List ℕ)) (written : List ℕ) → IfSome known (λ whole. written ≡ due whole)
        → OnOk r (Appends old new written) → OnOk r (IfSome known (λ whole. Appends old new (due whole)))
    same-written (Ok u) None written same appends = tt
    same-written (Ok u) (Some whole) written same appends = subst (Appends old new) same appends
    same-written (Err e) known written same appends = tt

    pub due-written : (r : Result U E) (known came : Option (List ℕ)) → IfSome known (λ whole. InputIs came whole)
        → OnOk r (Appends old new (stream came)) → OnOk r (IfSome known (λ whole. Appends old new (due whole)))
    due-written r known came told appends = same-written r known (stream came) (due-known known came told) appends
