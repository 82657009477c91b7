-- Laws of what a placement's words say: bits, copies in each domain, the tests of a lawful placement against `Feasible`, shares and
-- loads. The laws of the first placement are in PlacementFirst.
-- Assumes nothing.
use mathlib.Core.Path.{◌≡◌, refl, ap, sym, ◌∙◌}
use mathlib.Core.Bool.{Bool, true, false, cond}
use mathlib.Core.List.{List}
use mathlib.Core.Logic.{◌⊎◌, inl, inr, ◌↔◌}
use Prim.Native.Nat.{ℕ, zero, suc, ◌+◌, ◌*◌, ◌-◌, ◌/◌, ◌%◌, ◌^◌, ◌≤◌, ◌<◌, min}
use native.Mathlib.Nat.{not-suc-le-zero, lt_of_lt_of_le, zero-mul, mul-zero, one-mul, mul-add, mul_comm, div-eq_of_lt, div-eq-sub-div, div-one, two-pow-succ, sub-add_cancel}
use native.Mathlib.Numerals.{one-add}
use native.Mathlib.Decide.{dec_le, dec_lt}
use native.Mathlib.Omega.{arith}
use borrow.Author.Tests.{eqb-true}
use lib.Dec.{eqb, eqb-suc-suc}
use lib.Pow.{pow_pos, pow_mono, shr-shr}
use lib.ListN.{length, get_or-eq_default}
use Rattle.order.specs.Sum.{sum, delta}
use Rattle.order.proofs.Booleans.{bool_cases, and-iff, if-iff, leb-iff, ltb_iff}
use Rattle.order.proofs.Sums.{sum-cong, sum-none, sum-add, sum-scale, sum-exchange, sum-term, sum-index, sum-delta, delta-same, delta-other}
use Rattle.order.proofs.Ranges.{sum-groups}
use Rattle.order.proofs.Extremes.{allb-iff, largest-cong}
use Rattle.model.specs.Plan.{Plan, machines, domain, domains, domain_size, block_count, block_of, is_paired, partner, upper}
use Rattle.model.specs.Replication.{copy_limit, FeasibleCounts, share, largest_share}
use Rattle.model.specs.Placement.{bit, word_of, held, replicas, replicas_in, domains_used, count_of, used, Feasible, all_within, all_spread, all_fit, kept_apart, all_apart, counts_feasible, is_feasible, share_of, load, max_share}
use Rattle.theory.specs.Refusal.{Shaped, Valid}
use Rattle.theory.specs.Placement.{IsFeasibleExact}
use Rattle.theory.proofs.Plan.{turns, domain-lt, member, member-turn, member-sum}
use Rattle.theory.proofs.Replication.{feasible_counts-range, feasible_counts-same}

-- ── bit ──────────────────────────────────────────────────────────────────────────────────────────
pub bit-low : (w : ℕ) → bit w 0 ≡ w % 2
unfolding bit
bit-low w = ap (λ (x : ℕ). x % 2) (div-one w)

pub bit_high : (w k : ℕ) → bit w (suc k) ≡ bit (w / 2) k
unfolding bit
bit_high w k = ap (λ (x : ℕ). w / 2 ^ x % 2) (sym (one-add k)) ∙ ap (λ (x : ℕ). x % 2) (sym (shr-shr w 1 k))

pub bit_le : (w k : ℕ) → bit w k ≤ 1
unfolding bit
bit_le w k = omega arith

pub bit-cases : (w k : ℕ) → (bit w k ≡ 0) ⊎ (bit w k ≡ 1)
bit-cases w k = go (bit w k) (bit_le w k)
  where
    go : (b : ℕ) → b ≤ 1 → (b ≡ 0) ⊎ (b ≡ 1)
    go zero h = inl refl
    go (suc b) h = inr (omega arith)

-- a number below 2 ^ k has no bit from k on
pub bit-above-from : (w k : ℕ) → w < 2 ^ k → (j : ℕ) → k ≤ j → bit w j ≡ 0
unfolding bit
bit-above-from w k h j l = ap (λ (x : ℕ). x % 2) (div-eq_of_lt (lt_of_lt_of_le h (pow_mono l)))

pub bit-above : (w k : ℕ) → w < 2 ^ k → bit w k ≡ 0
bit-above w k h = bit-above-from w k h k (omega arith)

pub bit-zero : (k : ℕ) → bit 0 k ≡ 0
bit-zero k = bit-above 0 k (pow_pos k)

-- a bit that is set and one that is clear are two
pub bit-apart : (w m n : ℕ) → bit w m ≡ 1 → bit w n ≡ 0 → m ≡ n → ⊥
bit-apart w m n on off e = omega (arith, ap (bit w) e)

delta-suc : (a b : ℕ) → delta (suc a) (suc b) ≡ delta a b
unfolding delta
delta-suc a b = ap (λ (t : Bool). cond t 1 0) (eqb-suc-suc a b)

half-add : (w n : ℕ) → (w + 2 ^ suc n) / 2 ≡ w / 2 + 2 ^ n
half-add w n = let e = two-pow-succ n in omega arith

-- setting a bit that is clear
pub bit-add : (w n : ℕ) → bit w n ≡ 0 → (k : ℕ) → bit (w + 2 ^ n) k ≡ bit w k + delta k n
bit-add w zero e zero =
    let even : w % 2 ≡ 0 = sym (bit-low w) ∙ e in
    rw (bit-low (w + 1), bit-low w, delta-same 0 0 refl) (omega arith)
bit-add w zero e (suc k) =
    let even : w % 2 ≡ 0 = sym (bit-low w) ∙ e in
    let same : (w + 1) / 2 ≡ w / 2 = omega arith in
    let d = delta-other (suc k) 0 (λ q. omega arith) in
    rw (bit_high (w + 1) k, bit_high w k, same, d) (omega arith)
bit-add w (suc n) e zero =
    let p = two-pow-succ n in
    let d = delta-other 0 (suc n) (λ q. omega arith) in
    rw (bit-low (w + 2 ^ suc n), bit-low w, d) (omega arith)
bit-add w (suc n) e (suc k) =
    let later = bit-add (w / 2) n (sym (bit_high w n) ∙ e) k in
    rw (bit_high (w + 2 ^ suc n) k, bit_high w k, half-add w n, delta-suc k n) later

pub bit-add-below : (w M n : ℕ) → w < 2 ^ M → n < M → bit w n ≡ 0 → w + 2 ^ n < 2 ^ M
bit-add-below w zero n h l off = absurd (not-suc-le-zero l)
bit-add-below w (suc M) zero h l off =
    let p = two-pow-succ M in
    let even : w % 2 ≡ 0 = sym (bit-low w) ∙ off in
    omega arith
bit-add-below w (suc M) (suc n) h l off =
    let p = two-pow-succ M in
    let q = two-pow-succ n in
    let later = bit-add-below (w / 2) M n (omega arith) (omega arith) (sym (bit_high w n) ∙ off) in
    omega arith

odd-before : (q r : ℕ) → q ≡ r + 1 → q % 2 ≡ 1 → r % 2 ≡ 0
odd-before q r e odd = omega arith

-- clearing a bit that is set
pub bit-take : (w m : ℕ) → bit w m ≡ 1 → (2 ^ m ≤ w) × ((k : ℕ) → bit (w - 2 ^ m) k + delta k m ≡ bit w k)
unfolding bit
bit-take w m e =
    let le = holds-power (dec_le (2 ^ m) w) in
    (le, λ k. sym (bit-add (w - 2 ^ m) m (clear le) k) ∙ ap (λ (x : ℕ). bit x k) (sub-add_cancel le))
  where
    holds-power : Dec (2 ^ m ≤ w) → 2 ^ m ≤ w
    holds-power (yes h) = h
    holds-power (no h) = let z = bit-above w m (omega arith) in absurd (omega arith)

    clear : 2 ^ m ≤ w → bit (w - 2 ^ m) m ≡ 0
    clear le = odd-before (w / 2 ^ m) ((w - 2 ^ m) / 2 ^ m) (div-eq-sub-div (pow_pos m) le) e

-- ── held ─────────────────────────────────────────────────────────────────────────────────────────
-- a block that some machine holds has a word
pub held_word : (words : List ℕ) (m i : ℕ) → held words m i ≡ 1 → i < length words
held_word words m i on = go (dec_lt i (length words))
  where
    go : Dec (i < length words) → i < length words
    go (yes l) = l
    go (no l) =
        let empty : bit (word_of words i) m ≡ 0 = ap (λ (w : ℕ). bit w m) (get_or-eq_default words 0 (omega arith)) ∙ bit-zero m in
        absurd (omega arith)

-- a block that machine m holds and one that it does not are two
pub held-apart : (words : List ℕ) (m i j : ℕ) → held words m i ≡ 1 → held words m j ≡ 0 → j ≡ i → ⊥
held-apart words m i j on off e = omega (arith, ap (held words m) e)

-- ── replicas_in ───────────────────────────────────────────────────────────────────────────────────
pick : (t : Bool) (x : ℕ) → cond t x 0 ≡ cond t 1 0 * x
pick true x = sym (one-mul x)
pick false x = sym (zero-mul x)

-- the copies in a domain, as a weighted sum over all machines and as a sum over its members
pub replicas_in-delta : (p : Plan) (w d : ℕ) → replicas_in p w d ≡ sum (machines p) (λ m. delta (domain p m) d * bit w m)
unfolding replicas_in delta
replicas_in-delta p w d = sum-cong (machines p) _ _ (λ m l. pick (eqb (domain p m) d) (bit w m))

pub replicas_in-members : (p : Plan) → Shaped p → (w d : ℕ) → d < domains p
    → replicas_in p w d ≡ sum (domain_size p) (λ x. bit w (member p d x))
replicas_in-members p shaped w d l = replicas_in-delta p w d ∙ member-sum p shaped d (bit w) l

-- by one turn of the domains after the other
pub replicas_in-turns : (p : Plan) → Shaped p → (w d : ℕ) → d < domains p
    → replicas_in p w d ≡ sum p.rack_size (λ x. sum (turns p) (λ q. bit w (q * (domains p * p.rack_size) + (d * p.rack_size + x))))
replicas_in-turns p shaped w d l =
    replicas_in-members p shaped w d l
    ∙ sum-groups (turns p) p.rack_size (λ x. bit w (member p d x))
    ∙ sum-cong (turns p) _ (λ q. sum p.rack_size (λ x. bit w (q * (domains p * p.rack_size) + (d * p.rack_size + x))))
    (λ q h. sum-cong p.rack_size _ _ (λ x k. ap (bit w) (member-turn p d q x k)))
    ∙ sum-exchange (turns p) p.rack_size (λ q x. bit w (q * (domains p * p.rack_size) + (d * p.rack_size + x)))

-- a copy counts in its domain
pub replicas_in-held : (p : Plan) (w m : ℕ) → m < machines p → bit w m ≤ replicas_in p w (domain p m)
replicas_in-held p w m l =
    let term = sum-term (machines p) (λ k. delta (domain p k) (domain p m) * bit w k) m l in
    rw (replicas_in-delta p w (domain p m))
    (rw (delta-same (domain p m) (domain p m) refl, one-mul (bit w m)) at term)

-- a domain with a copy has a machine that holds it
pub replicas_in-some : (p : Plan) (w d : ℕ) → 0 < replicas_in p w d → (m : ℕ) × (m < machines p) × (domain p m ≡ d) × (bit w m ≡ 1)
unfolding replicas_in
replicas_in-some p w d some =
    let found = sum-index (machines p) (λ m. 0) (λ m. cond (eqb (domain p m) d) (bit w m) 0) (rw (sum-none (machines p)) some) in
    let m = found.0 in
    let here = go m (bool_cases (eqb (domain p m) d)) found.2 in
    (m, found.1, here.0, here.1)
  where
    go : (m : ℕ) → (eqb (domain p m) d ≡ true) ⊎ (eqb (domain p m) d ≡ false) → 0 < cond (eqb (domain p m) d) (bit w m) 0
        → (domain p m ≡ d) × (bit w m ≡ 1)
    go m (inl e) l = let on = rw e at l in (eqb-true (domain p m) d e, omega (arith, bit_le w m))
    go m (inr e) l = let on = rw e at l in absurd (omega arith)

pub replicas_in-zero : (p : Plan) (d : ℕ) → replicas_in p 0 d ≡ 0
replicas_in-zero p d =
    replicas_in-delta p 0 d
    ∙ sum-cong (machines p) _ (λ m. 0) (λ m l. ap (λ (x : ℕ). delta (domain p m) d * x) (bit-zero m) ∙ mul-zero (delta (domain p m) d))
    ∙ sum-none (machines p)

-- a copy more is one more in its domain
pub replicas_in-add : (p : Plan) (w n d : ℕ) → n < machines p → bit w n ≡ 0 → replicas_in p (w + 2 ^ n) d ≡ replicas_in p w d + delta (domain p n) d
replicas_in-add p w n d l off =
    replicas_in-delta p (w + 2 ^ n) d
    ∙ sum-cong (machines p) _ (λ k. weight k * bit w k + delta k n * weight k)
    (λ k h. ap (λ (x : ℕ). weight k * x) (bit-add w n off k) ∙ mul-add (weight k) (bit w k) (delta k n)
    ∙ ap (λ (x : ℕ). weight k * bit w k + x) (mul_comm (weight k) (delta k n)))
    ∙ sum-add (machines p) (λ k. weight k * bit w k) (λ k. delta k n * weight k)
    ∙ (omega (arith, replicas_in-delta p w d, sum-delta (machines p) n weight l))
  where
    weight : ℕ → ℕ
    weight k = delta (domain p k) d

-- ── domains_used ──────────────────────────────────────────────────────────────────────────────────
-- a word with a copy lies in a domain
pub domains_used-pos : (p : Plan) → Shaped p → (w m : ℕ) → m < machines p → bit w m ≡ 1 → 1 ≤ domains_used p w
unfolding domains_used
domains_used-pos p shaped w m l on =
    let used = replicas_in-held p w m l in
    omega (arith, sum-term (domains p) (λ d. min 1 (replicas_in p w d)) (domain p m) (domain-lt p shaped m))

-- ── Feasible ─────────────────────────────────────────────────────────────────────────────────────
-- lawful at counts, lawful at those that agree on the blocks
pub feasible-same : (p : Plan) (count other : ℕ → ℕ) (words : List ℕ) → ((i : ℕ) → i < block_count p → count i ≡ other i)
    → Feasible p count words → Feasible p other words
feasible-same p count other words same f =
    record {
      counts = feasible_counts-same p count other same f.counts;
      within = f.within;
      counted = λ i l. f.counted i l ∙ same i l;
      spread = f.spread;
      fits = f.fits;
      apart = f.apart;
    }

-- a placement is feasible at its own counts, if at any
pub feasible-own : (p : Plan) (count : ℕ → ℕ) (words : List ℕ) → Feasible p count words → Feasible p (count_of p words) words
feasible-own p count words f = feasible-same p count (count_of p words) words (λ i l. sym (f.counted i l)) f

-- a block with copies has a word
pub feasible-length : (p : Plan) → Valid p → (count : ℕ → ℕ) (words : List ℕ) → Feasible p count words → block_count p ≤ length words
unfolding replicas
feasible-length p valid count words f = go (dec_le (block_count p) (length words))
  where
    none : count_of p words (length words) ≡ 0
    none =
        ap (replicas p) (get_or-eq_default words 0 (omega arith))
        ∙ sum-cong (machines p) (bit 0) (λ m. 0) (λ m l. bit-zero m)
        ∙ sum-none (machines p)

    go : Dec (block_count p ≤ length words) → block_count p ≤ length words
    go (yes l) = l
    go (no l) =
        let here : length words < block_count p = omega arith in
        let range = feasible_counts-range p count valid.shaped f.counts (length words) here in
        absurd (omega (arith, none, range.0, f.counted (length words) here))

-- ── all_within, all_spread, all_fit, all_apart ───────────────────────────────────────────────────────
pub all_within-iff : (p : Plan) (words : List ℕ) → (all_within p words ≡ true) ↔ ((i : ℕ) → i < block_count p → word_of words i < 2 ^ machines p)
unfolding all_within
all_within-iff p words = allb-iff (block_count p) _ _ (λ i. ltb_iff (word_of words i) (2 ^ machines p))

pub all_spread-iff : (p : Plan) (words : List ℕ)
    → (all_spread p words ≡ true) ↔ ((i : ℕ) → i < block_count p → (block_of p i).min_domains ≤ domains_used p (word_of words i))
unfolding all_spread
all_spread-iff p words = allb-iff (block_count p) _ _ (λ i. leb-iff (block_of p i).min_domains (domains_used p (word_of words i)))

pub all_fit-iff : (p : Plan) (words : List ℕ) → (all_fit p words ≡ true) ↔ ((m : ℕ) → m < machines p → used p words m ≤ p.capacity)
unfolding all_fit
all_fit-iff p words = allb-iff (machines p) _ _ (λ m. leb-iff (used p words m) p.capacity)

pub kept_apart-iff : (p : Plan) (words : List ℕ) (i : ℕ)
    → (kept_apart p words i ≡ true) ↔ ((m : ℕ) → m < machines p → held words m i + held words m (partner p i) ≤ 1)
unfolding kept_apart
kept_apart-iff p words i = allb-iff (machines p) _ _ (λ m. leb-iff (held words m i + held words m (partner p i)) 1)

pub all_apart-iff : (p : Plan) (words : List ℕ)
    → (all_apart p words ≡ true)
    ↔ ((i : ℕ) → i < block_count p → is_paired p i ≡ true → (m : ℕ) → m < machines p → held words m i + held words m (partner p i) ≤ 1)
unfolding all_apart
all_apart-iff p words = allb-iff (block_count p) _ _ (λ i. if-iff (is_paired p i) _ (kept_apart-iff p words i))

-- ── counts_feasible ───────────────────────────────────────────────────────────────────────────────
counts_feasible-iff : (p : Plan) (count : ℕ → ℕ) → (counts_feasible p count ≡ true) ↔ FeasibleCounts p count
unfolding counts_feasible
counts_feasible-iff p count =
    let parts =
    and-iff _ _
    (allb-iff (block_count p) _ _
    (λ i. and-iff _ _ (leb-iff (block_of p i).min_replicas (count i)) (leb-iff (count i) (upper p i))))
    (leb-iff (sum (block_count p) count) (copy_limit p))
    in (
      λ e.
          let z = parts.0 e in
          record { at_least = λ i l. (z.0 i l).0; at_most = λ i l. (z.0 i l).1; in-limit = z.1 },
      λ c. parts.1 (λ i l. (c.at_least i l, c.at_most i l), c.in-limit),
    )

-- ── is_feasible ───────────────────────────────────────────────────────────────────────────────────
pub is_feasible-exact : IsFeasibleExact
unfolding is_feasible
is_feasible-exact p words =
    let parts =
    and-iff _ _
    (and-iff _ _ (and-iff _ _ (and-iff _ _ (counts_feasible-iff p (count_of p words)) (all_within-iff p words)) (all_spread-iff p words))
    (all_fit-iff p words))
    (all_apart-iff p words)
    in (
      λ e.
          let z = parts.0 e in
          record {
            counts = z.0.0.0.0;
            within = z.0.0.0.1;
            counted = λ i l. refl;
            spread = z.0.0.1;
            fits = z.0.1;
            apart = z.1;
          },
      λ f. parts.1 ((((f.counts, f.within), f.spread), f.fits), f.apart),
    )

-- ── share_of ──────────────────────────────────────────────────────────────────────────────────────
-- the share at the placement's counts
pub share_of-feasible : (p : Plan) (count : ℕ → ℕ) (words : List ℕ) → Feasible p count words
    → (i : ℕ) → i < block_count p → share (block_of p i).popularity (count i) ≡ share_of p words i
unfolding share_of
share_of-feasible p count words feasible i l = ap (share (block_of p i).popularity) (sym (feasible.counted i l))

-- ── load ─────────────────────────────────────────────────────────────────────────────────────────
-- the load of a domain's machines is the sum of share × copies in it
pub load-domain : (p : Plan) → Shaped p → (words : List ℕ) (d : ℕ) → d < domains p
    → sum (domain_size p) (λ x. load p words (member p d x)) ≡ sum (block_count p) (λ i. share_of p words i * replicas_in p (word_of words i) d)
unfolding load
load-domain p shaped words d l =
    sum-exchange (domain_size p) (block_count p) (λ x i. held words (member p d x) i * share_of p words i)
    ∙ sum-cong (block_count p) _ _
    (λ i h.
    sum-scale (domain_size p) (share_of p words i) (λ x. held words (member p d x) i)
    ∙ ap (λ (c : ℕ). share_of p words i * c) (sym (replicas_in-members p shaped (word_of words i) d l)))

-- ── max_share ─────────────────────────────────────────────────────────────────────────────────────
pub max_share-feasible : (p : Plan) (count : ℕ → ℕ) (words : List ℕ) → Feasible p count words → largest_share p count ≡ max_share p words
unfolding largest_share max_share
max_share-feasible p count words feasible = largest-cong (block_count p) _ _ (share_of-feasible p count words feasible)
