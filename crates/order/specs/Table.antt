-- A list given by its length and its elements.
use Rattle.std.specs.Prelude.{List, [], ◌∷◌, ◌++◌, ℕ, zero, suc, ◌+◌, take, drop}

-- f 0, f 1, .., f (n - 1)
unfoldable pub table {ℓ} : {A : Type ℓ} → ℕ → (ℕ → A) → List A
table zero f = []
table (suc n) f = table n f ++ (f n ∷ [])

-- The lists f 0, f 1, .., f (n - 1), one after the other.
unfoldable pub joined {ℓ} : {A : Type ℓ} → ℕ → (ℕ → List A) → List A
joined zero f = []
joined (suc n) f = joined n f ++ f n

-- The list with f 0, f 1, .., f (n - 1) for its first n items; the others stay.
unfoldable pub filled {ℓ} : {A : Type ℓ} → ℕ → (ℕ → A) → List A → List A
filled n f old = table n f ++ drop n old

-- The list without the n items from place `at` on; the later ones close up.
unfoldable pub cut {ℓ} : {A : Type ℓ} → ℕ → ℕ → List A → List A
cut at n list = take at list ++ drop (at + n) list
