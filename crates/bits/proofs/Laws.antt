-- Laws of the bits of a word that the functions on words need: shifts, `&`, `|` and `!`, bits counted or searched lowest first,
-- and the domains that a word lies in.
-- Assumes nothing.
use mathlib.Core.Path.{◌≡◌, refl, ap, ap₂, sym, ◌∙◌}
use mathlib.Core.Bool.{true}
use mathlib.Core.Logic.{◌⊎◌, inl, inr, ◌↔◌}
use Prim.Native.Nat.{ℕ, zero, suc, ◌+◌, ◌*◌, ◌-◌, ◌/◌, ◌%◌, ◌^◌, ◌<◌, ◌≤◌, min, max}
use native.Mathlib.Nat.{not-suc-le-zero, mul_assoc, one-mul, zero-mul, mod-one, mod-eq_of_lt, mul-add-mod_self_right, two-pow-succ}
use native.Mathlib.Numerals.{one-add}
use native.Mathlib.Decide.{dec_lt}
use native.Mathlib.Omega.{arith}
use borrow.Author.Tests.{eqb-true, eq-eqb}
use lib.Dec.{eqb, lit<}
use lib.Arith.{lt-one, digits_lt}
use lib.Pow.{pow_pos, shl_exact, shr-shr, mod-pow-add}
use lib.Bits.{bit_and, bit_or, bit_xor, and_step, and_shr, and_lt, or_step, or_shr, xor_step, xor_shr, differ}
use lib.Count.{ones, ones_step, count_trailing_zeros, under}
use Rattle.order.specs.Sum.{sum}
use Rattle.order.proofs.Sums.{sum-zero, sum-suc, sum-cong, sum_any}
use Rattle.order.proofs.Ranges.{sum-append}
use Rattle.model.specs.Plan.{Plan, machines, domains}
use Rattle.model.specs.Placement.{bit, replicas_in, domains_used}
use Rattle.theory.specs.Refusal.{Shaped}
use Rattle.theory.proofs.Plan.{turns, domains-turns}
use Rattle.theory.proofs.Placement.{bit-low, bit_high, bit_le, bit-cases, bit-zero, bit-above-from, replicas_in-turns}
use Rattle.cluster.specs.declared.Cluster.{Cluster}
use Rattle.cluster.specs.Cluster.{machines_in, ClusterOf}
use Rattle.cluster.proofs.Laws.{cluster-racks, cluster-size, cluster-feeds}
use Rattle.bits.specs.Words.{FoldedTo}

-- `1u64 << m`
pub one_shl : (m : ℕ) → m < 64 → 1 * 2 ^ m % 2 ^ 64 ≡ 2 ^ m
one_shl m h = shl_exact {a = 1} 1 m 64 (lit< tt) (omega arith) ∙ one-mul (2 ^ m)

-- bits from a on are those of the word shifted down by a
pub bit-from : (w a x : ℕ) → bit w (a + x) ≡ bit (w / 2 ^ a) x
unfolding bit
bit-from w a x = ap (λ (q : ℕ). q % 2) (sym (shr-shr w a x))

-- the remainder at 2 ^ (s + 1): bit s above the remainder at 2 ^ s
mod-top : (v s : ℕ) → v % 2 ^ suc s ≡ bit v s * 2 ^ s + v % 2 ^ s
unfolding bit
mod-top v s = ap (λ (k : ℕ). v % 2 ^ k) (sym (one-add s)) ∙ mod-pow-add v 1 s

-- the lowest s bits hold a set one exactly if the word has a remainder there
pub any-low : (s v : ℕ) → min 1 (sum s (bit v)) ≡ min 1 (v % 2 ^ s)
any-low zero v = rw (sum-zero (bit v), mod-one v)
any-low (suc s) v = rw (sum-suc s (bit v)) (go (bit-cases v s) (any-low s v))
  where
    go : (bit v s ≡ 0) ⊎ (bit v s ≡ 1) → min 1 (sum s (bit v)) ≡ min 1 (v % 2 ^ s)
        → min 1 (sum s (bit v) + bit v s) ≡ min 1 (v % 2 ^ suc s)
    go (inl e) later = rw (mod-top v s, e, zero-mul (2 ^ s)) (omega arith)
    go (inr e) later = rw (mod-top v s, e, one-mul (2 ^ s)) (omega (arith, pow_pos s))

pub any-from : (w a s : ℕ) → min 1 (sum s (λ x. bit w (a + x))) ≡ min 1 (w / 2 ^ a % 2 ^ s)
any-from w a s = ap (min 1) (sum-cong s _ (bit (w / 2 ^ a)) (λ x h. bit-from w a x)) ∙ any-low s (w / 2 ^ a)

-- the lowest term first
sum_low : (n : ℕ) (f : ℕ → ℕ) → sum (suc n) f ≡ f 0 + sum n (λ k. f (suc k))
sum_low n f =
    ap (λ (k : ℕ). sum k f) (sym (one-add n)) ∙ sum-append 1 n f
    ∙ ap₂ ◌+◌ (sum-suc 0 f ∙ (rw (sum-zero f) (omega arith))) (sum-cong n _ _ (λ k h. ap f (one-add k)))

-- `count_ones`
pub ones-sum : (k w : ℕ) → w < 2 ^ k → ones w ≡ sum k (bit w)
unfolding ones
ones-sum zero w h = rw (lt-one h, sum-zero (bit 0))
ones-sum (suc k) w h =
    let p = two-pow-succ k in
    ones_step w
    ∙ ap₂ ◌+◌ (sym (bit-low w)) (ones-sum k (w / 2) (omega arith) ∙ sum-cong k _ _ (λ j l. sym (bit_high w j)))
    ∙ sym (sum_low k (bit w))

-- `trailing_zeros`
abbrev LowestBelow : ℕ → ℕ → ℕ → Type 0
LowestBelow k w r = (r < k) × (bit w r ≡ 1) × ((j : ℕ) → j < r → bit w j ≡ 0)

pub lowest-below : (k w : ℕ) → 0 < w → w < 2 ^ k → LowestBelow k w (count_trailing_zeros k w)
unfolding count_trailing_zeros
lowest-below zero w p h = absurd (omega arith)
lowest-below (suc k) w p h =
    let q = two-pow-succ k in
    go (w % 2) refl (λ l. lowest-below k (w / 2) l (omega arith))
  where
    clear : (t : ℕ) → w % 2 ≡ 0 → ((j : ℕ) → j < t → bit (w / 2) j ≡ 0) → (j : ℕ) → j < suc t → bit w j ≡ 0
    clear t e first zero l = bit-low w ∙ e
    clear t e first (suc j) l = bit_high w j ∙ first j (omega arith)

    go : (d : ℕ) → w % 2 ≡ d → (0 < w / 2 → LowestBelow k (w / 2) (count_trailing_zeros k (w / 2)))
        → LowestBelow (suc k) w (under d (count_trailing_zeros k (w / 2)))
    go zero e later =
        let t = count_trailing_zeros k (w / 2) in
        let l = later (omega arith) in
        (omega (arith, l.0), bit_high w t ∙ l.1, clear t e l.2)
    go (suc d) e later = (omega arith, bit-low w ∙ (omega arith), λ j l. absurd (not-suc-le-zero l))

-- `a & b`
pub bit-and : (a b k : ℕ) → bit (bit_and a b) k ≡ min (bit a k) (bit b k)
unfolding bit
bit-and a b k =
    let u = a / 2 ^ k in
    let v = b / 2 ^ k in
    ap (λ (x : ℕ). x % 2) (and_shr a b k ∙ and_step u v)
    ∙ mul-add-mod_self_right (bit_and (u / 2) (v / 2)) 2 (min (u % 2) (v % 2))
    ∙ mod-eq_of_lt (omega arith)

-- `a & b == 0`: no bit is set in both
pub and-disjoint : (n a b : ℕ) → a < 2 ^ n → b < 2 ^ n → (eqb (bit_and a b) 0 ≡ true) ↔ ((k : ℕ) → bit a k + bit b k ≤ 1)
and-disjoint n a b ha hb = (there, back)
  where
    there : eqb (bit_and a b) 0 ≡ true → (k : ℕ) → bit a k + bit b k ≤ 1
    there e k =
        let none : bit (bit_and a b) k ≡ 0 = ap (λ (w : ℕ). bit w k) (eqb-true _ _ e) ∙ bit-zero k in
        omega (arith, bit-and a b k, bit_le a k, bit_le b k)

    back : ((k : ℕ) → bit a k + bit b k ≤ 1) → eqb (bit_and a b) 0 ≡ true
    back apart = elim (dec_lt 0 (bit_and a b)) [
      | yes some ↦ (let low = lowest-below n (bit_and a b) some (and_lt n a b ha hb) in
          absurd (omega (arith, low.1, bit-and a b (count_trailing_zeros n (bit_and a b)), apart (count_trailing_zeros n (bit_and a b)))))
      | no none ↦ eq-eqb (bit_and a b) 0 (omega arith)
    ]

-- `a | b`
pub bit-or : (a b k : ℕ) → bit (bit_or a b) k ≡ max (bit a k) (bit b k)
unfolding bit
bit-or a b k =
    let u = a / 2 ^ k in
    let v = b / 2 ^ k in
    ap (λ (x : ℕ). x % 2) (or_shr a b k ∙ or_step u v)
    ∙ mul-add-mod_self_right (bit_or (u / 2) (v / 2)) 2 (max (u % 2) (v % 2))
    ∙ mod-eq_of_lt (omega arith)

-- `!b`
pub bit_not : (n b k : ℕ) → b < 2 ^ n → k < n → bit (2 ^ n - 1 - b) k ≡ 1 - bit b k
bit_not zero b k h l = absurd (not-suc-le-zero l)
bit_not (suc n) b zero h l =
    let p = two-pow-succ n in
    rw (bit-low (2 ^ suc n - 1 - b), bit-low b) (omega arith)
bit_not (suc n) b (suc k) h l =
    let p = two-pow-succ n in
    let half : (2 ^ suc n - 1 - b) / 2 ≡ 2 ^ n - 1 - b / 2 = omega arith in
    rw (bit_high (2 ^ suc n - 1 - b) k, bit_high b k, half) (bit_not n (b / 2) k (omega arith) (omega arith))

-- `a & !b`: the bits of a that b lacks
pub bit-and-not : (n a b : ℕ) → a < 2 ^ n → b < 2 ^ n → (k : ℕ) → bit (bit_and a (2 ^ n - 1 - b)) k ≡ bit a k * (1 - bit b k)
bit-and-not n a b h l k = bit-and a (2 ^ n - 1 - b) k ∙ go (bit-cases a k) (dec_lt k n)
  where
    go : (bit a k ≡ 0) ⊎ (bit a k ≡ 1) → Dec (k < n) → min (bit a k) (bit (2 ^ n - 1 - b) k) ≡ bit a k * (1 - bit b k)
    go (inl off) m = rw (off, zero-mul (1 - bit b k)) (omega arith)
    go (inr on) (yes m) = rw (bit_not n b k l m, on, one-mul (1 - bit b k)) (omega arith)
    go (inr on) (no m) = let off = bit-above-from a n h k (omega arith) in absurd (omega arith)

differ-parity : (x y : ℕ) → differ x y % 2 ≡ (x + y) % 2
differ-parity zero y = omega arith
differ-parity (suc x) zero = omega arith
differ-parity (suc x) (suc y) = omega (arith, differ-parity x y)

-- `a ^ b`: the bits that one has and the other lacks
pub bit-xor : (a b k : ℕ) → bit (bit_xor a b) k ≡ (bit a k + bit b k) % 2
unfolding bit
bit-xor a b k =
    let u = a / 2 ^ k in
    let v = b / 2 ^ k in
    ap (λ (x : ℕ). x % 2) (xor_shr a b k ∙ xor_step u v)
    ∙ mul-add-mod_self_right (bit_xor (u / 2) (v / 2)) 2 (differ (u % 2) (v % 2))
    ∙ differ-parity (u % 2) (v % 2)

-- the domains that a word lies in, where its turns of the domains are laid over one another
module _ (p : Plan) (shaped : Shaped p) (w r : ℕ) (folded : FoldedTo w (domains p * p.rack_size) (machines p) r) where
  folded-plan : sum (domains p) (λ d. min 1 (sum p.rack_size (λ x. bit r (d * p.rack_size + x)))) ≡ domains_used p w
  unfolding domains_used
  folded-plan = sum-cong (domains p) _ _ (λ d l. ap (min 1) (sum-cong p.rack_size _ _ (λ x k. one d x l k)) ∙ sym (lies d l))
    where
      size : ℕ
      size = p.rack_size

      held : ℕ → ℕ → ℕ
      held d x = sum (turns p) (λ q. bit w (q * (domains p * size) + (d * size + x)))

      whole : machines p ≡ turns p * (domains p * size)
      whole = ap (λ (n : ℕ). n * size) (sym (domains-turns p shaped)) ∙ mul_assoc (turns p) (domains p) size

      one : (d x : ℕ) → d < domains p → x < size → bit r (d * size + x) ≡ min 1 (held d x)
      one d x l k = folded (turns p) (d * size + x) whole (digits_lt l k)

      lies : (d : ℕ) → d < domains p → min 1 (replicas_in p w d) ≡ min 1 (sum size (λ x. min 1 (held d x)))
      lies d l = ap (min 1) (replicas_in-turns p shaped w d l) ∙ sum_any size (held d)

pub folded-used : (p : Plan) (c : Cluster) → ClusterOf p c → (w r : ℕ) → FoldedTo w (c.feeds * c.rack_size) (machines_in c) r
    → sum c.feeds (λ d. min 1 (sum c.rack_size (λ x. bit r (d * c.rack_size + x)))) ≡ domains_used p w
folded-used p c of w r folded =
    rw (cluster-feeds p c of, cluster-size p c of)
    (folded-plan p of.valid.shaped w r (rw (cluster-feeds p c of, cluster-size p c of, cluster-racks p c of) at folded))
