-- Laws of the sets that the choice of machines works on: the lightest of a set, a word by its domains, the domains' weights.
-- Assumes nothing.
use mathlib.Core.Path.{◌≡◌, refl, ap, sym, ◌∙◌}
use mathlib.Core.Bool.{Bool, true, false, cond}
use mathlib.Core.List.{List}
use mathlib.Core.Logic.{◌⊎◌, inl, inr, ◌↔◌}
use Prim.Native.Nat.{ℕ, zero, suc, ◌+◌, ◌*◌, ◌-◌, ◌/◌, ◌^◌, ◌<◌, ◌≤◌}
use native.Mathlib.Nat.{not-suc-le-zero, le_refl, eq-or-lt_of_le, mod-lt, mul-le-mul_left, add-zero, two-pow-succ}
use native.Mathlib.Decide.{dec_lt, ℕ_discrete}
use native.Mathlib.Omega.{arith}
use lib.ListN.{length, get_or, set, length-set, replicate, length-replicate, get_or-replicate}
use lib.Seq.{get_or-set_same, get_or-set_other}
use borrow.Author.Tests.{eq-eqb, ne_eqb}
use lib.Dec.{eqb}
use lib.Pow.{pow_pos}
use Rattle.order.specs.Sum.{sum, delta}
use Rattle.order.specs.Search.{lightest}
use Rattle.order.proofs.Sums.{sum-zero, sum-suc, sum_step, sum-cong, sum-none, sum-add, sum-index, sum-delta, delta-same, delta-other}
use Rattle.order.proofs.Searches.{lightest-at}
use Rattle.model.specs.Refusal.{max_machines}
use Rattle.model.specs.Placement.{bit}
use Rattle.theory.specs.Widths.{load_bound}
use Rattle.theory.proofs.Placement.{bit_le, bit-zero, bit-above, bit-above-from, bit-add, bit-take}
use Rattle.bits.specs.Words.{Lowest}
use Rattle.cluster.specs.declared.Cluster.{Cluster}
use Rattle.cluster.specs.Cluster.{domain_in, InRange}
use Rattle.cluster.proofs.Laws.{range-turn}
use Rattle.arrival.specs.Arrival.{set_of, LightestOf, PartedTo}

-- ── set_of ──────────────────────────────────────────────────────────────────────────────────────────────────────────────

module _ (test : ℕ → Bool) where
  pub set_of-zero : set_of test 0 ≡ 0
  set_of-zero = sum-zero _

  -- the next number passes, or it does not
  pub set_of-with : (n : ℕ) → test n ≡ true → set_of test (n + 1) ≡ set_of test n + 2 ^ n
  set_of-with n e = sum_step n (λ k. cond (test k) (2 ^ k) 0) ∙ (rw e)

  pub set_of-without : (n : ℕ) → test n ≡ false → set_of test (n + 1) ≡ set_of test n
  set_of-without n e = sum_step n (λ k. cond (test k) (2 ^ k) 0) ∙ (rw e (omega arith))

  pub set_of-below : (n : ℕ) → set_of test n < 2 ^ n
  set_of-below zero = rw (sum-zero (λ k. cond (test k) (2 ^ k) 0)) (omega arith)
  set_of-below (suc n) = rw (sum-suc n (λ k. cond (test k) (2 ^ k) 0)) (go (test n) (set_of-below n) (two-pow-succ n))
    where
      go : (t : Bool) → set_of test n < 2 ^ n → 2 ^ suc n ≡ 2 ^ n + 2 ^ n → set_of test n + cond t (2 ^ n) 0 < 2 ^ suc n
      go true l p = omega arith
      go false l p = omega arith

  -- its bits are the test's answers
  pub set_of-bit : (n k : ℕ) → k < n → bit (set_of test n) k ≡ cond (test k) 1 0
  set_of-bit zero k l = absurd (not-suc-le-zero l)
  set_of-bit (suc n) k l =
      rw (sum-suc n (λ j. cond (test j) (2 ^ j) 0)) (go (test n) refl (ℕ_discrete k n) (λ m. set_of-bit n k m))
    where
      before : ℕ
      before = set_of test n

      off : bit before n ≡ 0
      off = bit-above before n (set_of-below n)

      go : (t : Bool) → test n ≡ t → Dec (k ≡ n) → (k < n → bit before k ≡ cond (test k) 1 0)
          → bit (before + cond t (2 ^ n) 0) k ≡ cond (test k) 1 0
      go true e (yes same) earlier = bit-add before n off k ∙ (rw (same, e, off, delta-same n n refl))
      go true e (no other) earlier = bit-add before n off k ∙ (rw (delta-other k n other) (omega (arith, earlier (omega arith))))
      go false e (yes same) earlier = ap (λ (w : ℕ). bit w k) (add-zero before) ∙ (rw (same, e, off))
      go false e (no other) earlier = ap (λ (w : ℕ). bit w k) (add-zero before) ∙ earlier (omega arith)

-- ── The bits of a set, counted ─────────────────────────────────────────────────────────────────────────────────────────

-- a word below 2 ^ n has its set bits below n
pub bit-place : (w n : ℕ) → w < 2 ^ n → (k : ℕ) → bit w k ≡ 1 → k < n
bit-place w n l k on = elim (dec_lt k n) [
  | yes h ↦ h
  | no h ↦ absurd (omega (arith, bit-above-from w n l k (omega arith)))
]

-- a word with a set bit is not 0
pub bit-some : (w k : ℕ) → bit w k ≡ 1 → 0 < w
bit-some w k on = omega (arith, (bit-take w k on).0, pow_pos k)

pub count-some : (n w : ℕ) → 0 < sum n (bit w) → 0 < w
count-some n w some =
    let found = sum-index n (λ k. 0) (bit w) (rw (sum-none n) some) in
    bit-some w found.0 (omega (arith, found.2, bit_le w found.0))

-- one term higher by 1
sum_one : (n m : ℕ) (f g : ℕ → ℕ) → m < n → ((k : ℕ) → g k + delta k m ≡ f k) → sum n g + 1 ≡ sum n f
sum_one n m f g l e =
    let here = sum-delta n m (λ k. 1) l in
    sym
    (sum-cong n f (λ k. g k + delta k m * 1) (λ k h. omega (arith, e k))
    ∙ sum-add n g (λ k. delta k m * 1)
    ∙ ap (λ (x : ℕ). sum n g + x) here)

pub count_add : (n w m : ℕ) → m < n → bit w m ≡ 0 → sum n (bit w) + 1 ≡ sum n (bit (w + 2 ^ m))
count_add n w m l off = sum_one n m (bit (w + 2 ^ m)) (bit w) l (λ k. sym (bit-add w m off k))

pub count-take : (n w m : ℕ) → m < n → bit w m ≡ 1 → sum n (bit (w - 2 ^ m)) + 1 ≡ sum n (bit w)
count-take n w m l on = sum_one n m (bit w) (bit (w - 2 ^ m)) l (bit-take w m on).1

pub count-zero : (n : ℕ) → sum n (bit 0) ≡ 0
count-zero n = sum-cong n (bit 0) (λ k. 0) (λ k l. bit-zero k) ∙ sum-none n

-- ── LightestOf ─────────────────────────────────────────────────────────────────────────────────────────────────────────

-- the lightest of a set is the lightest number that passes a test, where the set has those that pass
pub lightest_of-is : (word : ℕ) (weights : List ℕ) (r : ℕ) → LightestOf word weights r → (test : ℕ → Bool) (weight : ℕ → ℕ) (n : ℕ)
    → ((k : ℕ) → bit word k ≡ 1 → k < n) → ((k : ℕ) → k < n → (test k ≡ true) ↔ (bit word k ≡ 1))
    → ((k : ℕ) → k < n → get_or weights k 0 ≡ weight k) → r ≡ lightest test weight n
lightest_of-is word weights r of test weight n inside tests weigh =
    let rl = inside r of.on in
    let same = weigh r rl in
    lightest-at test weight n r rl ((tests r rl).1 of.on)
    (λ k l t. omega (arith, weigh k l, of.none-lighter k ((tests k l).0 t)))
    (λ k l t. let kl : k < n = omega arith in omega (arith, weigh k kl, of.lowest k l ((tests k kl).0 t)))

-- the best of the numbers passed, where `rest` are to come
pub record BestOf (word rest : ℕ) (weights : List ℕ) (best : ℕ) : Type 0 where
  pub below : best < max_machines
  pub on : bit word best ≡ 1
  pub later : (k : ℕ) → bit rest k ≡ 1 → best < k
  pub none-lighter : (k : ℕ) → bit word k ≡ 1 → bit rest k ≡ 0 → get_or weights best 0 ≤ get_or weights k 0
  pub lowest : (k : ℕ) → k < best → bit word k ≡ 1 → get_or weights best 0 < get_or weights k 0
  pub inside : (k : ℕ) → bit rest k ≤ bit word k

-- what of a set is left behind its lowest number
module _ (rest k : ℕ) (low : Lowest rest k) where
  left_less : (j : ℕ) → bit (rest - 2 ^ k) j + delta j k ≡ bit rest j
  left_less = (bit-take rest k low.on).1

  left-later : (j : ℕ) → bit (rest - 2 ^ k) j ≡ 1 → k < j
  left-later j on = elim (dec_lt k j) [ yes l ↦ l | no l ↦ absurd (go (eq-or-lt_of_le (omega arith))) ]
    where
      go : (j ≡ k) ⊎ (j < k) → ⊥
      go (inl e) = omega (arith, left_less j, delta-same j k e, bit_le rest j)
      go (inr l) = omega (arith, left_less j, low.first j l)

  left_passed : (j : ℕ) → bit (rest - 2 ^ k) j ≡ 0 → (j ≡ k) ⊎ (bit rest j ≡ 0)
  left_passed j off = elim (ℕ_discrete j k) [
    | yes e ↦ inl e
    | no d ↦ inr (omega (arith, left_less j, delta-other j k d))
  ]

-- the lowest number is the best of itself
pub best_of-first : (word : ℕ) (weights : List ℕ) (k : ℕ) → Lowest word k → BestOf word (word - 2 ^ k) weights k
best_of-first word weights k low =
    record {
      below = low.below;
      on = low.on;
      later = left-later word k low;
      none-lighter = λ j on off. elim (left_passed word k low j off) [
        | inl e ↦ rw e (le_refl (get_or weights k 0))
        | inr off ↦ absurd (omega arith)
      ];
      lowest = λ j l on. absurd (omega (arith, low.first j l));
      inside = λ j. omega (arith, left_less word k low j);
    }

module _ (word rest : ℕ) (weights : List ℕ) (best k : ℕ) (low : Lowest rest k) (so : BestOf word rest weights best) where
  -- the next number is lighter
  pub best_of-lighter : get_or weights k 0 < get_or weights best 0 → BestOf word (rest - 2 ^ k) weights k
  best_of-lighter lighter =
      record {
        below = low.below;
        on = omega (arith, so.inside k, low.on, bit_le word k);
        later = left-later rest k low;
        none-lighter = λ j on off. elim (left_passed rest k low j off) [
          | inl e ↦ rw e (le_refl (get_or weights k 0))
          | inr off ↦ omega (arith, so.none-lighter j on off)
        ];
        lowest = λ j l on. omega (arith, so.none-lighter j on (low.first j l));
        inside = λ j. omega (arith, left_less rest k low j, so.inside j);
      }

  -- it is not
  pub best_of-same : get_or weights best 0 ≤ get_or weights k 0 → BestOf word (rest - 2 ^ k) weights best
  best_of-same light =
      record {
        below = so.below;
        on = so.on;
        later = λ j on. omega (arith, left-later rest k low j on, so.later k low.on);
        none-lighter = λ j on off. elim (left_passed rest k low j off) [
          | inl e ↦ rw e light
          | inr off ↦ so.none-lighter j on off
        ];
        lowest = so.lowest;
        inside = λ j. omega (arith, left_less rest k low j, so.inside j);
      }

-- no number is to come
pub best_of-all : (word rest : ℕ) (weights : List ℕ) (best : ℕ) → rest ≡ 0 → BestOf word rest weights best → LightestOf word weights best
best_of-all word rest weights best e so =
    record {
      below = so.below;
      on = so.on;
      none-lighter = λ k on. so.none-lighter k on (rw e (bit-zero k));
      lowest = so.lowest;
    }

-- ── PartedTo ───────────────────────────────────────────────────────────────────────────────────────────────────────────

-- there are no more domains than machines
pub feeds-max : (c : Cluster) → InRange c → c.feeds ≤ max_machines
feeds-max c range = omega (arith, mul-le-mul_left c.feeds range.size-pos, range-turn c range, range.machines-max)

-- every domain is one of 64
pub domain-max : (c : Cluster) → InRange c → (m : ℕ) → domain_in c m < max_machines
domain-max c range m =
    omega (arith, mod-lt (m / c.rack_size) range.feeds-pos, feeds-max c range)

-- what of the word is left belongs to its domains, too
pub record Parting (word rest : ℕ) (c : Cluster) (parts : List ℕ) : Type 0 where
  pub sized : length parts ≡ max_machines
  pub are : (d : ℕ) → d < max_machines → (k : ℕ)
      → bit (get_or parts d 0) k + delta (domain_in c k) d * bit rest k ≡ delta (domain_in c k) d * bit word k

pub parting-none : (word : ℕ) (c : Cluster) → Parting word word c (replicate {A = ℕ} max_machines 0)
parting-none word c =
    record {
      sized = length-replicate {A = ℕ} max_machines 0;
      are = λ d l k. omega (arith, ap (λ (w : ℕ). bit w k) (get_or-replicate {A = ℕ} max_machines d 0 0 l), bit-zero k);
    }

module _ (word rest : ℕ) (c : Cluster) (parts : List ℕ) (m : ℕ) (low : Lowest rest m) (so : Parting word rest c parts)
    (l : domain_in c m < max_machines) where
  abbrev home : ℕ
  home = domain_in c m

  -- the part does not have the machine yet
  pub parting-off : bit (get_or parts (domain_in c m) 0) m ≡ 0
  parting-off = let here = rw (delta-same home home refl, low.on) at (so.are home l m) in omega (arith, bit_le word m)

  -- the machine leaves the rest, at its own domain
  leaves : (d k : ℕ) → delta k m * delta home d + delta (domain_in c k) d * bit (rest - 2 ^ m) k ≡ delta (domain_in c k) d * bit rest k
  leaves d k = elim (ℕ_discrete k m) [
    | yes e ↦
        let off : bit (rest - 2 ^ m) m ≡ 0 = omega (arith, (bit-take rest m low.on).1 m, delta-same m m refl, bit_le rest m) in
        rw (delta-same k m e, e, off, low.on) (omega arith)
    | no d ↦
        let same : bit (rest - 2 ^ m) k ≡ bit rest k = omega (arith, (bit-take rest m low.on).1 k, delta-other k m d) in
        rw (delta-other k m d, same) (omega arith)
  ]

  pub parting-step : Parting word (rest - 2 ^ m) c (set parts (domain_in c m) (get_or parts (domain_in c m) 0 + 2 ^ m))
  parting-step =
      record {
        sized = length-set parts home _ ∙ so.sized;
        are = λ d dl k. at d dl k (ℕ_discrete d home);
      }
    where
      at : (d : ℕ) → d < max_machines → (k : ℕ) → Dec (d ≡ home)
          → bit (get_or (set parts home (get_or parts home 0 + 2 ^ m)) d 0) k + delta (domain_in c k) d * bit (rest - 2 ^ m) k
          ≡ delta (domain_in c k) d * bit word k
      at d dl k (yes e) =
          let left = leaves d k in
          let one : delta home d ≡ 1 = delta-same home d (sym e) in
          let added = bit-add (get_or parts home 0) m parting-off k in
          let now : bit (get_or (set parts home (get_or parts home 0 + 2 ^ m)) d 0) k ≡ bit (get_or parts d 0) k + delta k m =
          rw (e, get_or-set_same parts home (get_or parts home 0 + 2 ^ m) 0 (omega (arith, so.sized, l))) added
          in
          let left' = rw one at left in
          omega (arith, so.are d dl k)
      at d dl k (no h) =
          let left = leaves d k in
          let none : delta home d ≡ 0 = delta-other home d (λ e. h (sym e)) in
          let left' = rw none at left in
          rw (get_or-set_other parts home d (get_or parts home 0 + 2 ^ m) 0 h)
          (omega (arith, so.are d dl k))

pub parting-all : (word rest : ℕ) (c : Cluster) (parts : List ℕ) → rest ≡ 0 → Parting word rest c parts → PartedTo word c parts
parting-all word rest c parts e so =
    record {
      sized = so.sized;
      are = λ d l k. let here = rw (e, bit-zero k) at (so.are d l k) in omega arith;
    }

-- ── WeightsOf ──────────────────────────────────────────────────────────────────────────────────────────────────────────

-- what machine m adds to the weight of domain d
abbrev pub weight_of : List ℕ → Cluster → ℕ → ℕ → ℕ
weight_of load c d m = cond (eqb (domain_in c m) d) (get_or load m 0) 0

-- the weights of the first n machines
pub record Weighing (load : List ℕ) (c : Cluster) (weights : List ℕ) (n : ℕ) : Type 0 where
  pub sized : length weights ≡ max_machines
  pub are : (d : ℕ) → d < max_machines → get_or weights d 0 ≡ sum n (weight_of load c d)
  pub narrow : (d : ℕ) → d < max_machines → get_or weights d 0 ≤ load_bound * n

pub weighing-none : (load : List ℕ) (c : Cluster) → Weighing load c (replicate {A = ℕ} max_machines 0) 0
weighing-none load c =
    record {
      sized = length-replicate {A = ℕ} max_machines 0;
      are = λ d b. get_or-replicate max_machines d 0 0 b ∙ sym (sum-zero _);
      narrow = λ d b. omega (arith, get_or-replicate {A = ℕ} max_machines d 0 0 b);
    }

module _ (load : List ℕ) (c : Cluster) (weights : List ℕ) (n : ℕ) (so : Weighing load c weights n) (b : domain_in c n < max_machines)
    (small : get_or load n 0 < load_bound) where
  abbrev mine : ℕ
  mine = domain_in c n

  abbrev after : List ℕ
  after = set weights mine (get_or weights mine 0 + get_or load n 0)

  pub weighing-step : Weighing load c (set weights (domain_in c n) (get_or weights (domain_in c n) 0 + get_or load n 0)) (n + 1)
  weighing-step =
      record {
        sized = length-set weights mine _ ∙ so.sized;
        are = λ d dl. at d dl (ℕ_discrete d mine);
        narrow = λ d dl. narrow d dl (ℕ_discrete d mine);
      }
    where
      here : get_or after mine 0 ≡ get_or weights mine 0 + get_or load n 0
      here = get_or-set_same weights mine _ 0 (omega (arith, so.sized, b))

      at : (d : ℕ) → d < max_machines → Dec (d ≡ mine) → get_or after d 0 ≡ sum (n + 1) (weight_of load c d)
      at d dl (yes e) =
          let term : weight_of load c d n ≡ get_or load n 0 = rw (eq-eqb mine d (sym e)) in
          let moved = ap (λ (x : ℕ). get_or after x 0) e in
          omega (arith, ap (λ (x : ℕ). get_or weights x 0) e, here, so.are d dl, sum_step n (weight_of load c d))
      at d dl (no h) =
          let term : weight_of load c d n ≡ 0 = rw (ne_eqb mine d (λ e. h (sym e))) in
          let kept = get_or-set_other weights mine d (get_or weights mine 0 + get_or load n 0) 0 h in
          omega (arith, so.are d dl, sum_step n (weight_of load c d))

      narrow : (d : ℕ) → d < max_machines → Dec (d ≡ mine) → get_or after d 0 ≤ load_bound * (n + 1)
      narrow d dl (yes e) =
          omega (arith, ap (λ (x : ℕ). get_or after x 0) e, here, so.narrow mine b)
      narrow d dl (no h) =
          omega (arith, get_or-set_other weights mine d (get_or weights mine 0 + get_or load n 0) 0 h, so.narrow d dl)
