-- Laws of counting: one word bit by bit, and the words one after another.
-- Assumes nothing.
use mathlib.Core.Path.{◌≡◌, refl, ap, sym, ◌∙◌}
use mathlib.Core.List.{List}
use Prim.Native.Nat.{ℕ, ◌+◌, ◌*◌, ◌-◌, ◌<◌, ◌≤◌, ◌^◌}
use native.Mathlib.Nat.{mul-le-mul_right}
use native.Mathlib.Decide.{ℕ_discrete}
use native.Mathlib.Omega.{arith}
use lib.ListN.{length, get_or, set, length-set, replicate, length-replicate, get_or-replicate}
use lib.Seq.{get_or-set_same, get_or-set_other}
use Rattle.order.specs.Sum.{delta}
use Rattle.order.proofs.Sums.{delta-same, delta-other, sum-zero, sum_step}
use Rattle.model.specs.Refusal.{max_machines, max_blocks}
use Rattle.model.specs.Placement.{bit, held}
use Rattle.theory.proofs.Placement.{bit-take, bit_le, bit-zero}
use Rattle.cluster.specs.declared.Cluster.{Cluster}
use Rattle.cluster.specs.Blocks.{share_in, ProfilesFit}
use Rattle.bits.specs.Words.{Lowest}
use Rattle.loads.specs.Loads.{AddAsked, AddedTo, LoadsOf}
use Rattle.loads.proofs.Laws.{load_sum-narrow, copy_sum-max}

-- ── One item ───────────────────────────────────────────────────────────────────────────────────────────────────────────

-- one place set anew, with what it had before and has then on either side
pub set-balance : (list : List ℕ) (m x y z : ℕ) → m < length list → z + x ≡ get_or list m 0 + y → (k : ℕ)
    → get_or (set list m z) k 0 + delta k m * x ≡ get_or list k 0 + delta k m * y
set-balance list m x y z l is k = elim (ℕ_discrete k m) [
  | yes e ↦ rw (delta-same k m e, e, get_or-set_same list m z 0 l) (omega arith)
  | no d ↦ rw (delta-other k m d, get_or-set_other list m k z 0 d) (omega arith)
]

-- ── One word ───────────────────────────────────────────────────────────────────────────────────────────────────────────

-- adding the amount at a set bit and clearing the bit leaves each item with what its bit is to add the same
added : (list : List ℕ) (rest n x : ℕ) → n < length list → bit rest n ≡ 1 → (m : ℕ)
    → get_or (set list n (get_or list n 0 + x)) m 0 + bit (rest - 2 ^ n) m * x ≡ get_or list m 0 + bit rest m * x
added list rest n x l on m =
    let here = set-balance list n 0 x (get_or list n 0 + x) l (omega arith) m in
    omega (arith, ap (λ (b : ℕ). b * x) ((bit-take rest n on).1 m))

-- each item with what its bit of `rest` is to add is the entry's with what the word's is
pub record Owing (entry list : List ℕ) (word rest x : ℕ) : Type 0 where
  pub sized : length list ≡ max_machines
  pub is : (m : ℕ) → m < max_machines → get_or list m 0 + bit rest m * x ≡ get_or entry m 0 + bit word m * x

-- nothing is added yet
pub owing-none : (entry : List ℕ) (word x : ℕ) → length entry ≡ max_machines → Owing entry entry word word x
owing-none entry word x e = record { sized = e; is = λ m l. refl }

-- the lowest bit's item has the amount more
pub owing-step : {entry list : List ℕ} {word rest n x : ℕ} → Lowest rest n → Owing entry list word rest x
    → Owing entry (set list n (get_or list n 0 + x)) word (rest - 2 ^ n) x
owing-step {list = list} {rest = rest} {n = n} {x = x} low owing =
    let l = low.below in
    record {
      sized = length-set list n (get_or list n 0 + x) ∙ owing.sized;
      is = λ m b. added list rest n x (omega (arith, owing.sized)) low.on m ∙ owing.is m b;
    }

-- an item whose bit is left has not grown
pub owing-ungrown : {entry list : List ℕ} {word rest n x : ℕ} → Lowest rest n → Owing entry list word rest x → get_or list n 0 ≤ get_or entry n 0
owing-ungrown {word = word} {n = n} {x = x} low owing =
    let same = rw low.on at (owing.is n low.below) in
    omega (arith, mul-le-mul_right x (bit_le word n))

-- where no bit is left, the word's is added
owing-paid : {entry list : List ℕ} {word rest x : ℕ} → rest ≡ 0 → Owing entry list word rest x
    → (m : ℕ) → m < max_machines → get_or list m 0 ≡ get_or entry m 0 + bit word m * x
owing-paid e owing m l = let same = rw (e, bit-zero m) at (owing.is m l) in omega arith

-- where no bit is left, the word is counted
pub added-to : {loads copies loads' copies' : List ℕ} {word rest share : ℕ} → rest ≡ 0 → Owing loads loads' word rest share
    → Owing copies copies' word rest 1 → AddedTo loads copies word share loads' copies'
added-to e load one =
    record {
      loads-sized = load.sized;
      copies-sized = one.sized;
      load_is = owing-paid e load;
      copies-are = λ m l. owing-paid e one m l ∙ (omega arith);
    }

-- ── The words ──────────────────────────────────────────────────────────────────────────────────────────────────────────

-- a cluster with its first i blocks alone
abbrev pub up_to : Cluster → ℕ → Cluster
up_to c i =
    record { racks = c.racks; rack_size = c.rack_size; feeds = c.feeds; capacity = c.capacity; blocks = i }

module _ (c : Cluster) (words profiles : List ℕ) where
  -- no word is counted
  pub up_to-none : LoadsOf (up_to c 0) words profiles (replicate {A = ℕ} max_machines 0) (replicate {A = ℕ} max_machines 0)
  up_to-none =
      record {
        loads-sized = length-replicate {A = ℕ} max_machines 0;
        copies-sized = length-replicate {A = ℕ} max_machines 0;
        load_is = λ m l. get_or-replicate max_machines m 0 0 l ∙ sym (sum-zero _);
        copies-are = λ m l. get_or-replicate max_machines m 0 0 l ∙ sym (sum-zero _);
      }

  module _ (i : ℕ) (loads copies : List ℕ) (of : LoadsOf (up_to c i) words profiles loads copies) where
    -- one word more may be counted
    pub up_to-asked : i < c.blocks → ProfilesFit c profiles → AddAsked loads copies (share_in (get_or profiles i 0))
    up_to-asked l fit =
        let few : i ≤ max_blocks = omega (arith, fit.in-range.blocks-max) in
        record {
          loads-sized = of.loads-sized;
          copies-sized = of.copies-sized;
          load-room = λ m h. rw (of.load_is m h) (load_sum-narrow (up_to c i) words profiles few (λ k before. fit.narrow k (omega arith)) m);
          copies-room = λ m h. rw (of.copies-are m h) (copy_sum-max (up_to c i) words few m);
          share-narrow = fit.narrow i l;
        }

    -- and then is
    pub up_to-step : {loads' copies' : List ℕ} → AddedTo loads copies (get_or words i 0) (share_in (get_or profiles i 0)) loads' copies'
        → LoadsOf (up_to c (i + 1)) words profiles loads' copies'
    up_to-step e =
        record {
          loads-sized = e.loads-sized;
          copies-sized = e.copies-sized;
          load_is =
              λ m l. omega (arith, of.load_is m l, e.load_is m l, sum_step i (λ k. held words m k * share_in (get_or profiles k 0)));
          copies-are = λ m l. omega (arith, of.copies-are m l, e.copies-are m l, sum_step i (held words m));
        }
