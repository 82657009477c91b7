-- What a test that came out false, or true, says of its parts, and tests as statements.
-- Assumes nothing.
use mathlib.Core.Path.{◌≡◌, refl, sym}
use mathlib.Core.Bool.{Bool, true, false, cond, ◌||◌, ◌&&◌, beq, and-eq-true_iff}
use mathlib.Core.Logic.{◌⊎◌, inl, inr, ◌↔◌}
use native.Mathlib.Omega.{arith}
use Prim.Native.Nat.{ℕ, ◌≤◌, ◌<◌}
use native.Mathlib.Nat.{pos_of_ne-zero}
use borrow.Author.Tests.{ltb-true, ltb-false, lt-ltb, leb-true, le-leb, eqb-true, eqb-false, eq-eqb, ne_eqb}
use lib.Dec.{ltb, leb, eqb}

pub no-contradiction {ℓ} : {A : Type ℓ} → true ≡ false → A
no-contradiction e = absurd (let z : ◌≡◌ {A = ℕ} 0 1 = cc in omega arith)

pub or-false : (a b : Bool) → (a || b) ≡ false → (a ≡ false) × (b ≡ false)
or-false true b e = no-contradiction e
or-false false b e = (refl, e)

pub or3-false : (a b c : Bool) → (a || b || c) ≡ false → (a ≡ false) × (b ≡ false) × (c ≡ false)
or3-false true b c e = no-contradiction e
or3-false false b c e = let z = or-false b c e in (refl, z.0, z.1)

-- a number above 0 is not 0
pub pos-eqb : (n : ℕ) → 1 ≤ n → eqb n 0 ≡ false
pos-eqb n l = ne_eqb n 0 (λ e. omega arith)

-- a number that is neither 0 nor above the limit
pub in-range : (n limit : ℕ) → (eqb n 0 || ltb limit n) ≡ false → (1 ≤ n) × (n ≤ limit)
in-range n limit e =
    let z = or-false (eqb n 0) (ltb limit n) e in
    (pos_of_ne-zero (eqb-false n 0 z.0), ltb-false limit n z.1)

pub bool_cases : (b : Bool) → (b ≡ true) ⊎ (b ≡ false)
bool_cases true = inl refl
bool_cases false = inr refl

pub not_so : (t : Bool) → (t ≡ true → ⊥) → t ≡ false
not_so true h = absurd (h refl)
not_so false h = refl

-- the tests as statements
pub and-iff {ℓ κ} : {P : Type ℓ} {Q : Type κ} (a b : Bool) → (a ≡ true) ↔ P → (b ≡ true) ↔ Q → ((a && b) ≡ true) ↔ (P × Q)
and-iff a b p q = (
  λ e. let z = (and-eq-true_iff a b).0 e in (p.0 z.0, q.0 z.1),
  λ h. (and-eq-true_iff a b).1 (p.1 h.0, q.1 h.1),
)

pub leb-iff : (a b : ℕ) → (leb a b ≡ true) ↔ (a ≤ b)
leb-iff a b = (leb-true a b, le-leb a b)

pub ltb_iff : (a b : ℕ) → (ltb a b ≡ true) ↔ (a < b)
ltb_iff a b = (ltb-true a b, lt-ltb a b)

pub eqb-iff : (a b : ℕ) → (eqb a b ≡ true) ↔ (a ≡ b)
eqb-iff a b = (eqb-true a b, eq-eqb a b)

pub beq-iff : (a b : Bool) → (beq a b ≡ true) ↔ (a ≡ b)
beq-iff true true = (λ e. refl, λ e. refl)
beq-iff true false = (λ e. sym e, λ e. sym e)
beq-iff false true = (λ e. e, λ e. e)
beq-iff false false = (λ e. refl, λ e. refl)

-- a test that is made where another one passes
pub if-iff {ℓ} : {P : Type ℓ} (t b : Bool) → (b ≡ true) ↔ P → (cond t b true ≡ true) ↔ (t ≡ true → P)
if-iff true b h = (λ e s. h.0 e, λ f. h.1 (f refl))
if-iff false b h = (λ e s. no-contradiction (sym s), λ f. refl)

-- what holds of both choices holds of the one taken
pub cond-all {ℓ κ} : {A : Type ℓ} (P : A → Type κ) (t : Bool) (a b : A) → (t ≡ true → P a) → P b → P (cond t a b)
cond-all P true a b ha hb = ha refl
cond-all P false a b ha hb = hb
