-- `loads::shift` meets its contract: on loads and copies alike, what is taken at m is given at n.
-- Assumes nothing.
use mathlib.Core.Path.{◌≡◌, ◌∙◌}
use mathlib.Core.List.{List}
use Prim.Native.Nat.{ℕ, ◌+◌, ◌*◌, ◌-◌, ◌<◌, ◌≤◌}
use native.Mathlib.Omega.{arith}
use lib.ListN.{length, get_or, set, length-set}
use Rattle.order.specs.Sum.{delta}
use Rattle.loads.proofs.Adding.{set-balance}
use Rattle.loads.proofs.shift.Goals as goal

-- x taken at m
abbrev taken : List ℕ → ℕ → ℕ → List ℕ
taken list m x = set list m (get_or list m 0 - x)

-- and given at n
abbrev given : List ℕ → ℕ → ℕ → ℕ → List ℕ
given list m n x = set (taken list m x) n (get_or (taken list m x) n 0 + x)

module _ (list : List ℕ) (m n x : ℕ) (ml : m < length list) (has : x ≤ get_or list m 0) where
  taken_is : (k : ℕ) → get_or (taken list m x) k 0 + delta k m * x ≡ get_or list k 0
  taken_is k = set-balance list m x 0 (get_or list m 0 - x) ml (omega arith) k ∙ (omega arith)

  given-sized : length (given list m n x) ≡ length list
  given-sized = length-set (taken list m x) n _ ∙ length-set list m _

  given_is : n < length list → (k : ℕ) → get_or (given list m n x) k 0 + delta k m * x ≡ get_or list k 0 + delta k n * x
  given_is nl k =
      let old = taken list m x in
      let after = set-balance old n 0 x (get_or old n 0 + x) (omega (arith, length-set list m (get_or list m 0 - x))) (omega arith) k in
      omega (arith, taken_is k)

pub returns : goal.returns
returns c =
    let a = c.args in
    let asked = c.requires in
    let load = a.loads.load in
    let copies = a.loads.copies in
    let ml : a.m < length load = omega (arith, asked.m-below) in
    let mc : a.m < length copies = omega (arith, asked.m-below) in
    record {
      loads-sized = given-sized load a.m a.n a.share ml asked.has-share ∙ (omega arith);
      copies-sized = given-sized copies a.m a.n 1 mc asked.has-copy ∙ (omega arith);
      load_is = λ k l. given_is load a.m a.n a.share ml asked.has-share (omega (arith, asked.n-below)) k;
      copies-are = λ k l.
          let here = given_is copies a.m a.n 1 mc asked.has-copy (omega (arith, asked.n-below)) k in
          omega arith;
    }
