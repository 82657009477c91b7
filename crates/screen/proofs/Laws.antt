-- Laws of the sweep over ranks: the bits of a word, and blocks that both machines or neither have.
-- Assumes nothing.
use mathlib.Core.Path.{◌≡◌}
use mathlib.Core.List.{List}
use Prim.Native.Nat.{ℕ, ◌+◌, ◌*◌, ◌/◌, ◌%◌, ◌<◌, ◌≤◌}
use native.Mathlib.Decide.{dec_lt}
use native.Mathlib.Omega.{arith}
use lib.ListN.{get_or}
use Rattle.model.specs.Placement.{bit}
use Rattle.index.specs.declared.Index.{Index}
use Rattle.index.specs.Index.{spot}
use Rattle.screen.specs.Screen.{Alone, Passed, SweptBelow}

-- the bits of one word of a part
pub spot-word : (part : List ℕ) (m word t : ℕ) → t < 64 → spot part m (word * 64 + t) ≡ bit (get_or part (m * 16 + word) 0) t
unfolding spot
spot-word part m word t l =
    let at : m * 16 + (word * 64 + t) / 64 ≡ m * 16 + word = omega arith in
    let in-word : (word * 64 + t) % 64 ≡ t = omega arith in
    rw (at, in-word)

module _ (mine theirs : ℕ → ℕ) (index : Index) (margin blocks : ℕ) where
  -- a block on one machine alone is not one that both machines or neither have
  never-equal : (k : ℕ) → mine k ≡ theirs k → Alone mine theirs k → ⊥
  never-equal k e a = omega (arith, a.holds, a.lacks)

  never-equal-other : (k : ℕ) → mine k ≡ theirs k → Alone theirs mine k → ⊥
  never-equal-other k e a = omega (arith, a.holds, a.lacks)

  -- where n has no block of its own more, what is known stays
  carry : {k later ahead top reach under : ℕ} → ((q : ℕ) → q < later → Alone theirs mine q → q < k)
      → Passed mine theirs index margin k ahead top reach under → Passed mine theirs index margin later ahead top reach under
  carry old p =
      record {
        risen = p.risen;
        within = λ q c a. p.within q (old q c a) a;
        near = λ q c a. p.near q (old q c a) a;
        next = λ q c a. p.next q (old q c a) a;
      }

  module _ (top reach under : ℕ) where
    -- blocks that both machines or neither have change nothing
    pub skip : (k later : ℕ) → k ≤ later → ((j : ℕ) → k ≤ j → j < later → mine j ≡ theirs j)
        → SweptBelow mine theirs index margin blocks k top reach under → SweptBelow mine theirs index margin blocks later top reach under
    skip k later l same s =
        record {
          passed = λ x b h. carry old (s.passed x (omega arith) h);
          barren = λ x q b c h g a o. s.barren x q (own x b a) (old q c o) h g a o;
        }
      where
        old : (q : ℕ) → q < later → Alone theirs mine q → q < k
        old q c a = elim (dec_lt q k) [
          | yes m ↦ m
          | no m ↦ absurd (never-equal-other q (same q (omega arith) c) a)
        ]

        own : (q : ℕ) → q < later → Alone mine theirs q → q < k
        own q c a = elim (dec_lt q k) [
          | yes m ↦ m
          | no m ↦ absurd (never-equal q (same q (omega arith) c) a)
        ]
