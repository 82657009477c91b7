-- The items of a list that pass a test.
use Rattle.std.specs.Prelude.{Bool, cond, List, [], ◌∷◌}

-- They are in the list's order.
unfoldable pub select {ℓ} : {A : Type ℓ} → (A → Bool) → List A → List A
select test [] = []
select test (a ∷ rest) = let later = select test rest in cond (test a) (a ∷ later) later
