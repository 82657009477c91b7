-- A step's numbers, one by one.
-- Assumes nothing.
use mathlib.Core.Path.{◌≡◌, refl}
use mathlib.Core.List.{List, [], ◌∷◌}
use Prim.Native.Nat.{ℕ}
use lib.ListN.{get_or}
use Rattle.model.specs.Steps.{Step, none, relocate, exchange}
use Rattle.interface.specs.Interface.{step_numbers}

-- a step's numbers are six
pub six_numbers : (s : Step) → let n = step_numbers s in
    ◌≡◌ {A = List ℕ}
    (2 ∷ get_or n 0 0 ∷ get_or n 1 0 ∷ get_or n 2 0 ∷ get_or n 3 0 ∷ get_or n 4 0 ∷ get_or n 5 0 ∷ [])
    (2 ∷ n)
unfolding step_numbers
six_numbers none = refl
six_numbers (relocate racks m n i) = refl
six_numbers (exchange racks m n i j) = refl
