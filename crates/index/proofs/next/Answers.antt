-- `index::next` meets its contract. The loop's invariant: no block passed is held by m and not by n; a turn passes the rest of
-- one word of the index.
-- Assumes nothing.
use mathlib.Core.Path.{◌≡◌, ap, ◌∙◌}
use mathlib.Core.List.{List}
use Prim.Native.Nat.{ℕ, ◌+◌, ◌-◌, ◌*◌, ◌/◌, ◌%◌, ◌^◌, ◌<◌}
use native.Mathlib.Decide.{dec_lt}
use native.Mathlib.Omega.{arith}
use lib.ListN.{get_or}
use Rattle.model.specs.Placement.{bit}
use Rattle.theory.proofs.Placement.{bit-zero}
use Rattle.bits.specs.Words.{Lowest}
use Rattle.index.specs.Index.{spot, NoneFree}
use Rattle.index.proofs.Laws.{cell, next-passed, next-found, next-within}
use Rattle.index.proofs.next.Goals as goal

-- the free place that the word gives, and the places passed before it
module _ (part : List ℕ) (m n from k d t : ℕ)
    (is : (y : ℕ) → bit d y ≡ bit (get_or part (cell m k) 0) y * (1 - bit (get_or part (cell n k) 0) y))
    (narrow : d < 2 ^ 64) (low : Lowest (d / 2 ^ (k % 64)) t) (past : NoneFree part m n from k) where
  within : k % 64 + t < 64
  within = next-within d (k % 64) t narrow low.on

  passed-word : NoneFree part m n from (k + t)
  passed-word j h l =
      elim (dec_lt j k) [
        | yes before ↦ past j h before
        | no after ↦ next-passed part m n k d is j (omega arith) (omega (arith, within)) (low.first (j - k) (omega arith))
      ]

  found-there : (spot part m (k + t) ≡ 1) × (spot part n (k + t) ≡ 0)
  found-there =
      let back : k + t - k ≡ t = omega arith in
      next-found part m n k d is (k + t) (omega arith) (omega (arith, within)) (rw back low.on)

pub returns-then-at-cluster : goal.returns-then-at-cluster
returns-then-at-cluster c =
    let d = c.and_not in
    let a = c.args in
    let past = c.loop-k.invariant in
    let low = c.lowest.ensures in
    let there = found-there a.part.now a.m a.n a.from c.loop-k.k d.result _ d.ensures d.type_inv low past.1 in
    record {
      at_least = omega arith;
      below = omega arith;
      passed = passed-word a.part.now a.m a.n a.from c.loop-k.k d.result _ d.ensures d.type_inv low past.1;
      holds = there.0;
      lacks = there.1;
    }

pub returns-else-at-cluster : goal.returns-else-at-cluster
returns-else-at-cluster c j h l =
    let d = c.and_not in
    let a = c.args in
    passed-word a.part.now a.m a.n a.from c.loop-k.k d.result _ d.ensures d.type_inv c.lowest.ensures c.loop-k.invariant.1 j h
    (omega arith)

pub loop-k-preserved : goal.loop-k-preserved
loop-k-preserved c =
    let found = c.and_not in
    let a = c.args in
    let k = c.loop-k.k in
    let d = found.result in (
      omega arith,
      λ j h l. elim (dec_lt j k) [
        | yes before ↦ c.loop-k.invariant.1 j h before
        | no after ↦
            next-passed a.part.now a.m a.n k d found.ensures j (omega arith) (omega arith)
            (ap (λ (w : ℕ). bit w (j - k)) c.if-free-ne0.false ∙ bit-zero (j - k))
      ],
    )
