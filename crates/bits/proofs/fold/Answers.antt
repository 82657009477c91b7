-- `bits::fold` meets its contract. The loop's invariant: the pieces before `at` are laid over one another.
-- Assumes nothing.
use mathlib.Core.Path.{◌≡◌, ap, sym, ◌∙◌}
use Prim.Native.Nat.{ℕ, ◌+◌, ◌*◌, ◌<◌, ◌≤◌, ◌/◌, ◌^◌, min, max}
use native.Mathlib.Nat.{lt_of_mul-lt-mul_right, le_of_mul-le-mul_right, add-mul, zero-mul, one-mul}
use lib.Bits.{bit_or}
use native.Mathlib.Omega.{arith}
use Rattle.order.proofs.Sums.{sum-zero, sum-suc, sum_step}
use Rattle.model.specs.Placement.{bit}
use Rattle.theory.proofs.Placement.{bit_le}
use Rattle.bits.proofs.Laws.{bit-from, bit-or}
use Rattle.bits.proofs.fold.Invariants.{laid}
use Rattle.bits.proofs.fold.Goals as goal

-- the word is its first piece, and one piece more
first_piece : (word size x : ℕ) → bit word x ≡ min 1 (laid word size 1 x)
first_piece word size x =
    let here : bit word (0 * size + x) ≡ bit word x = ap (bit word) (omega (arith, zero-mul size)) in
    omega (arith, bit_le word x, sum-suc 0 (λ q. bit word (q * size + x)), sum-zero (λ q. bit word (q * size + x)))

next-piece : (word size k x b c : ℕ) → b ≡ min 1 (laid word size k x) → c ≡ bit word (k * size + x) → max b c ≡ min 1 (laid word size (k + 1) x)
next-piece word size k x b c before here =
    let all = sum_step k (λ q. bit word (q * size + x)) in
    omega (arith, bit_le word (k * size + x))

pub loop-at-init : goal.loop-at-init
loop-at-init c =
    let a = c.args in
    (1, omega (arith, one-mul a.size), omega arith, first_piece a.word a.size)

one-more : (word size at k folded x : ℕ) → at ≡ k * size → bit folded x ≡ min 1 (laid word size k x)
    → bit (bit_or folded (word / 2 ^ at)) x ≡ min 1 (laid word size (k + 1) x)
one-more word size at k folded x start before =
    bit-or folded _ x
    ∙ next-piece word size k x _ _ before (sym (bit-from word at x) ∙ ap (λ (n : ℕ). bit word (n + x)) start)

pub loop-at-preserved : goal.loop-at-preserved
loop-at-preserved c =
    let at = c.loop-at in
    let a = c.args in
    let k = at.invariant.0 in
    let next = add-mul k 1 a.size in (
      k + 1,
      omega (arith, at.invariant.1, one-mul a.size),
      omega arith,
      λ x. one-more a.word a.size at.at k at.folded x at.invariant.1 (at.invariant.3 x),
    )

-- where the pieces laid reach the total, they are all pieces
all-laid : (word size total k pieces x v : ℕ) → total ≡ pieces * size → total ≤ k * size → k * size < total + size
    → v ≡ min 1 (laid word size k x) → v ≡ min 1 (laid word size pieces x)
all-laid word size total k pieces x v whole long short is =
    let most : k * size < (pieces + 1) * size = omega (arith, add-mul pieces 1 size, one-mul size) in
    let least : pieces * size ≤ k * size = omega arith in
    let all : k ≡ pieces = omega (arith, le_of_mul-le-mul_right least (omega arith), lt_of_mul-lt-mul_right size most) in
    is ∙ ap (λ (n : ℕ). min 1 (laid word size n x)) all

-- the one piece is the whole
pub returns : goal.returns
returns c pieces x whole l =
    let at = c.loop-at in
    all-laid _ _ _ at.invariant.0 pieces x _ whole (omega (arith, at.invariant.1)) (omega (arith, at.invariant.1, at.invariant.2)) (at.invariant.3 x)

pub returns-2 : goal.returns-2
returns-2 c pieces x whole l =
    let at = c.loop-at in
    let next = add-mul at.invariant.0 1 c.args.size in
    let k : (at.invariant.0 + 1) * c.args.size ≡ at.at + c.args.size = omega (arith, at.invariant.1, one-mul c.args.size) in
    all-laid _ _ _ (at.invariant.0 + 1) pieces x _ whole (omega arith) (omega arith) (one-more c.args.word c.args.size at.at at.invariant.0 at.folded x at.invariant.1 (at.invariant.3 x))
