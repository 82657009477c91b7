-- `bits::any_of` meets its contract: a range of bits is clear exactly if the word shifted down has no remainder at 2 ^ size.
-- Assumes nothing.
use mathlib.Core.Path.{◌≡◌, ap, sym, ◌∙◌}
use mathlib.Core.Bool.{not}
use Prim.Native.Nat.{ℕ, zero, suc, ◌+◌, ◌≤◌, ◌/◌, ◌%◌, ◌^◌, ◌<◌, min}
use native.Mathlib.Nat.{div-one, mod-eq_of_lt}
use native.Mathlib.Omega.{arith}
use mir.Val.{bool_byte}
use borrow.Author.Tests.{ne_eqb}
use lib.Dec.{eqb}
use lib.Pow.{pow_pos}
use Rattle.bits.proofs.Laws.{one_shl, any-from}
use Rattle.bits.proofs.any_of.Goals as goal

-- `n != 0` as a number
some : (n : ℕ) → bool_byte (not (eqb n 0)) ≡ min 1 n
some zero = omega arith
some (suc n) = rw (ne_eqb (suc n) 0 (λ e. absurd (omega arith))) (omega arith)

-- at size 64 the remainder is the word
whole : (word from size : ℕ) → from + size ≤ 64 → size ≡ 64 → word < 2 ^ 64 → word / 2 ^ from % 2 ^ size ≡ word
whole word from size within full fits =
    let none : from ≡ 0 = omega arith in
    rw (full, none, div-one word) (mod-eq_of_lt fits)

pub returns-then-size-eq64 : goal.returns-then-size-eq64
returns-then-size-eq64 c =
    let a = c.args in
    c.from.ensures ∙ some a.word
    ∙ sym (any-from a.word a.from a.size ∙ ap (min 1) (whole a.word a.from a.size c.requires.0 c.if-size-eq64.true c.ranges.word.fits))

pub nonzero_rem-word : goal.nonzero_rem-word
nonzero_rem-word c = rw (one_shl c.args.size (omega arith)) (pow_pos c.args.size)

pub returns : goal.returns
returns c =
    let a = c.args in
    c.from-2.ensures ∙ (rw (one_shl a.size (omega arith)) (some _)) ∙ sym (any-from a.word a.from a.size)
