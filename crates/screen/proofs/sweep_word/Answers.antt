-- `screen::sweep_word` meets its contract. The loop's invariant: the ranks below base + c are swept, and the bits to come are those from
-- c on at which a and b differ.
-- Assumes nothing.
use mathlib.Core.Path.{◌≡◌, refl, ap, sym, ◌∙◌}
use mathlib.Core.Bool.{Bool, true, false}
use Prim.Native.Nat.{ℕ, ◌+◌, ◌-◌, ◌%◌, ◌^◌, ◌<◌, ◌≤◌}
use native.Mathlib.Nat.{add_assoc}
use native.Mathlib.Decide.{dec_lt, ℕ_discrete}
use native.Mathlib.Omega.{arith}
use borrow.Author.Tests.{eqb-true, eqb-false}
use lib.Dec.{eqb}
use Rattle.order.proofs.Sums.{delta-same, delta-other}
use Rattle.model.specs.Placement.{bit}
use Rattle.theory.proofs.Placement.{bit_le, bit-take, bit-zero}
use Rattle.bits.specs.Words.{Lowest}
use Rattle.ranking.proofs.Laws.{key_share-narrow}
use Rattle.index.specs.declared.Index.{Index}
use Rattle.screen.specs.declared.Sweep.{Sweep}
use Rattle.screen.specs.Screen.{Side, Bits}
use Rattle.screen.proofs.Laws.{skip}
use Rattle.screen.proofs.sweep_word.Invariants.{Reached, Left}
use Rattle.screen.proofs.sweep_word.Goals as goal

-- bits that do not differ are equal
equal-bits : (a b t : ℕ) → (bit a t + bit b t) % 2 ≡ 0 → bit a t ≡ bit b t
equal-bits a b t e = omega (arith, bit_le a t, bit_le b t)

-- passing over the ranks at which no bit is left
pass : (a b : ℕ) (index : Index) (base margin : ℕ) (s r : Sweep) (rest c later : ℕ) → c ≤ later → later ≤ 64 → Left a b rest c
    → ((t : ℕ) → t < later → bit rest t ≡ 0) → Reached a b index base margin s c r → Reached a b index base margin s later r
pass a b index base margin s r rest c later l h left none reached mine theirs blocks rises bits swept =
    skip mine theirs index margin blocks r.top r.reach r.under (base + c) (base + later) (omega arith) same
    (reached mine theirs blocks rises bits swept)
  where
    same : (j : ℕ) → base + c ≤ j → j < base + later → mine j ≡ theirs j
    same j below above =
        let t = j - base in
        let e : j ≡ base + t = omega arith in
        let off : (bit a t + bit b t) % 2 ≡ 0 = sym (left.ahead t (omega arith) (omega arith)) ∙ none t (omega arith) in
        rw e (bits.of-mine t (omega arith) ∙ equal-bits a b t off ∙ sym (bits.of-theirs t (omega arith)))

-- the lowest bit left is not below c
from-c : (a b rest c t : ℕ) → Left a b rest c → bit rest t ≡ 1 → c ≤ t
from-c a b rest c t left on = elim (dec_lt t c) [
  | yes m ↦ absurd (omega (arith, left.behind t m))
  | no m ↦ omega arith
]

-- which machine has the block of the lowest bit
which : (a b base t : ℕ) (mine theirs : ℕ → ℕ) → Bits mine theirs a b base → t < 64 → (bit a t + bit b t) % 2 ≡ 1
    → (own : Bool) → eqb (bit a t) 1 ≡ own → Side mine theirs (base + t) own
which a b base t mine theirs bits l odd true e =
    let one = eqb-true (bit a t) 1 e in
    record { holds = bits.of-mine t l ∙ one; lacks = bits.of-theirs t l ∙ (omega (arith, bit_le b t)) }
which a b base t mine theirs bits l odd false e =
    let other = eqb-false (bit a t) 1 e in
    let zero : bit a t ≡ 0 = elim (ℕ_discrete (bit a t) 1) [
      | yes m ↦ absurd (other m)
      | no m ↦ omega (arith, bit_le a t)
    ] in
    record { holds = bits.of-theirs t l ∙ (omega (arith, bit_le b t)); lacks = bits.of-mine t l ∙ zero }

-- without its lowest bit
cleared : (a b rest c t later : ℕ) → Left a b rest c → Lowest rest t → later ≡ rest - 2 ^ t → Left a b later (t + 1)
cleared a b rest c t later left low is =
    let taken = (bit-take rest t low.on).1 in
    record {
      ahead = λ x l h. rw is (omega (arith, taken x, delta-other x t (λ e. omega arith), left.ahead x l (omega (arith, from-c a b rest c t left low.on))));
      behind = λ x l. rw is (elim (ℕ_discrete x t) [
        | yes e ↦ rw e (omega (arith, taken t, delta-same t t refl, low.on))
        | no e ↦ omega (arith, taken x, delta-other x t e, low.first x (omega arith))
      ]);
    }

pub sweep_block-requires : goal.sweep_block-requires
sweep_block-requires c =
    record {
      share-narrow = rw c.key_share-share.ensures (key_share-narrow _ (omega arith));
      margin-narrow = c.requires.margin-narrow;
    }

pub loop-t-preserved : goal.loop-t-preserved
loop-t-preserved c =
    let low = c.in-Some.ensures.steps.0 in
    let a = c.args in
    let index = a.index.now in
    let t = c.in-Some.t in
    let inv = c.loop-t.invariant in
    let rest = c.loop-t.t-iterator.rest in
    let left = inv.2 in
    let from = from-c a.a a.b rest inv.0 t left low.on in
    let odd : (bit a.a t + bit a.b t) % 2 ≡ 1 = sym (left.ahead t low.below from) ∙ low.on in
    let at-rank = c.key_share-share.ensures in (
      t + 1,
      omega (arith, low.below),
      cleared a.a a.b rest inv.0 t _ left low c.in-Some.ensures.steps.1,
      λ mine theirs blocks rises bits swept. rw (sym (add_assoc a.base t 1))
          (c.in_ok-sweep.ensures mine theirs index blocks (a.base + t) rises at-rank
          (which a.a a.b a.base t mine theirs bits low.below odd (eqb c.bit_at-own.result 1)
          (ap (λ (x : ℕ). eqb x 1) (sym c.bit_at-own.ensures)))
          (pass a.a a.b index a.base a.margin a.start c.loop-t.sweep rest inv.0 t from
          (omega (arith, low.below)) left low.first inv.3 mine theirs blocks rises bits swept)),
    )

pub returns : goal.returns
returns c mine theirs blocks rises bits swept =
    let a = c.args in
    let inv = c.loop-t.invariant in
    let done = c.in-None.ensures.steps.0 in
    pass a.a a.b a.index.now a.base a.margin a.start c.loop-t.sweep c.loop-t.t-iterator.rest inv.0 64 inv.1 (omega arith) inv.2
    (λ t l. rw done (bit-zero t)) inv.3 mine theirs blocks rises bits swept
