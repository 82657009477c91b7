-- Laws of the items of a list that pass a test.
-- Assumes nothing.
use mathlib.Core.Path.{◌≡◌, refl, ap}
use mathlib.Core.Bool.{Bool, true, false, cond}
use mathlib.Core.List.{List, [], ◌∷◌, ◌++◌}
use Prim.Native.Nat.{◌≤◌}
use native.Mathlib.Omega.{arith}
use lib.ListN.{length}
use Rattle.order.specs.Select.{select}

module _ {ℓ} {A : Type ℓ} (test : A → Bool) where
  pub select-append : (front rest : List A) → select test (front ++ rest) ≡ select test front ++ select test rest
  unfolding select
  select-append [] rest = refl
  select-append (a ∷ front) rest = go (test a) (select-append front rest)
    where
      go : (b : Bool) → select test (front ++ rest) ≡ select test front ++ select test rest
          → cond b (a ∷ select test (front ++ rest)) (select test (front ++ rest))
          ≡ cond b (a ∷ select test front) (select test front) ++ select test rest
      go true e = ap (λ (l : List A). a ∷ l) e
      go false e = e

  -- one item more
  pub select-snoc : (front : List A) (a : A) → select test (front ++ (a ∷ [])) ≡ select test front ++ cond (test a) (a ∷ []) []
  unfolding select
  select-snoc front a = select-append front (a ∷ [])

  pub select-length : (l : List A) → length (select test l) ≤ length l
  unfolding select
  select-length [] = omega arith
  select-length (a ∷ l) = go (test a) (select-length l)
    where
      go : (b : Bool) → length (select test l) ≤ length l → length (cond b (a ∷ select test l) (select test l)) ≤ length (a ∷ l)
      go true e = omega arith
      go false e = omega arith

  -- all of them, where none is lost
  pub select-all : (l : List A) → length l ≤ length (select test l) → select test l ≡ l
  unfolding select
  select-all [] whole = refl
  select-all (a ∷ l) whole = go (test a) (select-all l) (select-length l) whole
    where
      go : (b : Bool) → (length l ≤ length (select test l) → select test l ≡ l) → length (select test l) ≤ length l
          → length (a ∷ l) ≤ length (cond b (a ∷ select test l) (select test l)) → cond b (a ∷ select test l) (select test l) ≡ a ∷ l
      go true all most whole = ap (λ (r : List A). a ∷ r) (all (omega arith))
      go false all most whole = absurd (omega arith)
