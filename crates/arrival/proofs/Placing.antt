-- What the choice works with, on numbers and in a plan; and the choice itself.
-- Assumes nothing.
use mathlib.Core.Path.{◌≡◌, ap, sym, ◌∙◌}
use mathlib.Core.Bool.{Bool, cond}
use mathlib.Core.List.{List}
use mathlib.Core.Logic.{◌⊎◌, inl, inr}
use Prim.Native.Nat.{ℕ, zero, suc, ◌+◌, ◌*◌, ◌-◌, ◌/◌, ◌^◌, ◌<◌, ◌≤◌, min}
use native.Mathlib.Nat.{zero-mul, one-mul, two-pow-succ}
use native.Mathlib.Decide.{dec_lt, ℕ_discrete}
use native.Mathlib.Omega.{arith}
use borrow.Author.Tests.{lt-ltb, le-ltb}
use lib.Dec.{eqb, ltb}
use lib.ListN.{length, get_or}
use Rattle.order.specs.Sum.{sum, delta}
use Rattle.order.proofs.Booleans.{ltb_iff}
use Rattle.order.proofs.Sums.{sum-cong, sum-none, delta-same, delta-other}
use Rattle.order.proofs.Ranges.{sum-append}
use Rattle.model.specs.Plan.{Block, Plan, machines, domains, domain}
use Rattle.model.specs.Refusal.{max_machines}
use Rattle.model.specs.Placement.{bit, replicas, replicas_in, domains_used, used, load}
use Rattle.model.specs.Recordings.{free_word, check25, domain_load, spread_word, filled_word, arrival_word}
use Rattle.theory.proofs.Placement.{bit-cases, bit-low, bit_high, bit-above-from, replicas_in-held, replicas_in-some}
use Rattle.theory.proofs.Arrivals.{free_word-laws}
use Rattle.std.proofs.Common.{Ok, Err}
use Rattle.refusal.specs.declared.Refusal.TheVariants.{NoMachine}
use Rattle.cluster.specs.declared.Cluster.{Cluster}
use Rattle.cluster.specs.Cluster.{machines_in, domain_in, InRange}
use Rattle.cluster.specs.Blocks.{ProfilesFit, PlacementOf}
use Rattle.cluster.proofs.Laws.{cluster-range, cluster-feeds, cluster-domain, cluster-capacity, cluster-machines, copies_in-within}
use Rattle.bits.proofs.Laws.{lowest-below}
use Rattle.loads.specs.declared.Loads.{Loads}
use Rattle.loads.specs.Loads.{LoadsOf, RoomTo}
use Rattle.loads.proofs.Laws.{loads-narrow, copies-used, loads-load}
use Rattle.arrival.specs.Arrival.{set_of, free_in, PartedTo, roomy_in, WeightsOf, SpreadAsked, SpreadOf, SpreadAs, FillAsked, FillOf, PlaceAsked, MachinesOf, PlacedOf}
use Rattle.arrival.proofs.Laws.{set_of-below, set_of-bit, bit-place, bit-some, feeds-max}
use Rattle.arrival.proofs.Spreading.{passed}

-- ── On numbers ─────────────────────────────────────────────────────────────────────────────────────────────────────────

-- a word that is not 0 has a set bit
below_power : (n : ℕ) → n < 2 ^ n
below_power zero = omega arith
below_power (suc n) = omega (arith, below_power n, two-pow-succ n)

bit_found : (w : ℕ) → 0 < w → (k : ℕ) × (bit w k ≡ 1)
bit_found w some = let low = lowest-below w w some (below_power w) in (_, low.1)

module _ (word : ℕ) (c : Cluster) (parts : List ℕ) (parted : PartedTo word c parts) where
  -- a machine of a part is one of the word, in the part's domain
  part-bit : (d k : ℕ) → d < max_machines → bit (get_or parts d 0) k ≡ 1 → (domain_in c k ≡ d) × (bit word k ≡ 1)
  part-bit d k l on = go (ℕ_discrete (domain_in c k) d) (parted.are d l k)
    where
      go : Dec (domain_in c k ≡ d) → bit (get_or parts d 0) k ≡ delta (domain_in c k) d * bit word k → (domain_in c k ≡ d) × (bit word k ≡ 1)
      go (yes e) is = (e, omega (arith, (rw (delta-same (domain_in c k) d e, one-mul (bit word k)) at is)))
      go (no h) is = absurd (omega (arith, (rw (delta-other (domain_in c k) d h, zero-mul (bit word k)) at is)))

  pub spread-asked : (l : Loads) (weights : List ℕ) (spread : ℕ) → InRange c → WeightsOf l c weights → length l.load ≡ max_machines
      → spread ≤ sum max_machines (bit (roomy_in parts c.feeds)) → SpreadAsked parts weights l.load (roomy_in parts c.feeds) spread
  spread-asked l weights spread range weighed sized enough =
      record {
        parts-sized = parted.sized;
        weights-sized = weighed.sized;
        loads-sized = sized;
        apart = λ d e k dl el in-d in_e. sym (part-bit d k dl in-d).0 ∙ (part-bit e k el in_e).0;
        roomy-some = λ d on.
            let test : ℕ → Bool = λ e. ltb 0 (get_or parts e 0) in
            let l = bit-place (roomy_in parts c.feeds) c.feeds (set_of-below test c.feeds) d on in
            (ltb_iff 0 (get_or parts d 0)).0 ((passed (test d)).0 (sym (set_of-bit test c.feeds d l) ∙ on));
        enough = enough;
      }

  pub fill-asked : (weights loads : List ℕ) (roomy spread r others : ℕ) → SpreadAs parts weights loads roomy spread r
      → length loads ≡ max_machines → spread + others ≤ sum max_machines (bit word) → FillAsked word r loads others
  fill-asked weights loads roomy spread r others so sized enough =
      record {
        loads-sized = sized;
        inside = λ k. inside k (bit-cases r k);
        enough = omega (arith, so.copies-are);
      }
    where
      inside : (k : ℕ) → (bit r k ≡ 0) ⊎ (bit r k ≡ 1) → bit r k ≤ bit word k
      inside k (inl off) = omega arith
      inside k (inr on) = let at = so.inside k on in omega (arith, (part-bit at.0 k at.1 at.2).1)

-- words with the same bits are the same
same-bits : (n a b : ℕ) → a + b ≤ n → ((k : ℕ) → bit a k ≡ bit b k) → a ≡ b
same-bits zero a b small e = omega arith
same-bits (suc n) a b small e =
    let half = same-bits n (a / 2) (b / 2) (omega arith) (λ k. sym (bit_high a k) ∙ e (suc k) ∙ bit_high b k) in
    omega (arith, half, bit-low a, bit-low b, e 0)

-- the machines with room are those with a free place
pub room-free : (l : Loads) (c : Cluster) (r : ℕ) → RoomTo c l.copies (machines_in c) r → r ≡ free_in l c
room-free l c r room = same-bits (r + free_in l c) r (free_in l c) (omega arith) (λ k. at k (dec_lt k (machines_in c)))
  where
    test : ℕ → Bool
    test m = ltb (get_or l.copies m 0) c.capacity

    here : (k : ℕ) → k < machines_in c → Dec (get_or l.copies k 0 < c.capacity) → bit r k ≡ cond (test k) 1 0
    here k h (yes few) = (room.is k h).1 few ∙ (rw (lt-ltb _ _ few))
    here k h (no full) =
        elim (bit-cases r k) [ inl off ↦ off | inr on ↦ absurd (full ((room.is k h).0 on)) ]
        ∙ (rw (le-ltb (get_or l.copies k 0) c.capacity (omega arith)))

    at : (k : ℕ) → Dec (k < machines_in c) → bit r k ≡ bit (free_in l c) k
    at k (yes h) = here k h (dec_lt (get_or l.copies k 0) c.capacity) ∙ sym (set_of-bit test (machines_in c) k h)
    at k (no h) =
        room.past k (omega arith)
        ∙ sym (bit-above-from (free_in l c) (machines_in c) (set_of-below test (machines_in c)) k (omega arith))

-- ── In a plan ──────────────────────────────────────────────────────────────────────────────────────────────────────────

same-room : (a b : ℕ) → (0 < a → 0 < b) → (0 < b → 0 < a) → ltb 0 a ≡ ltb 0 b
same-room a b to from = elim (dec_lt 0 a) [
  | yes l ↦ lt-ltb 0 a l ∙ sym (lt-ltb 0 b (to l))
  | no h ↦ le-ltb 0 a (omega arith) ∙ sym (le-ltb 0 b (elim (dec_lt 0 b) [ yes l ↦ absurd (h (from l)) | no g ↦ omega arith ]))
]

one-or-none : (n : ℕ) → cond (ltb 0 n) 1 0 ≡ min 1 n
one-or-none n = elim (dec_lt 0 n) [
  | yes l ↦ rw (lt-ltb 0 n l) (omega arith)
  | no h ↦ rw (le-ltb 0 n (omega arith)) (omega arith)
]

-- below 2 ^ m, the sum of the first n bits is that of the first m
count-within : (n m w : ℕ) → m ≤ n → w < 2 ^ m → sum n (bit w) ≡ sum m (bit w)
count-within n m w l h =
    let cut : m + (n - m) ≡ n = omega arith in
    let above : sum (n - m) (λ j. bit w (m + j)) ≡ 0 =
    sum-cong (n - m) _ (λ j. 0) (λ j b. bit-above-from w m h (m + j) (omega arith)) ∙ sum-none (n - m)
    in
    ap (λ (k : ℕ). sum k (bit w)) (sym cut) ∙ sum-append m (n - m) (bit w) ∙ (omega arith)

module _ (p : Plan) (words : List ℕ) (c : Cluster) (l : Loads) (of : MachinesOf p words c l) where
  whole : machines_in c ≡ machines p
  whole = cluster-machines p c of.cluster-of

  feeds-are : c.feeds ≡ domains p
  feeds-are = cluster-feeds p c of.cluster-of

  range : InRange c
  range = cluster-range p c of.cluster-of

  pub free-is : free_in l c ≡ free_word p words
  unfolding free_word
  free-is =
      sum-cong (machines_in c) _ (λ m. cond (ltb (used p words m) p.capacity) (2 ^ m) 0)
      (λ m b. rw (of.copies-are m b, cluster-capacity p c of.cluster-of))
      ∙ ap (λ (n : ℕ). sum n (λ m. cond (ltb (used p words m) p.capacity) (2 ^ m) 0)) whole

  pub free-count : sum max_machines (bit (free_in l c)) ≡ replicas p (free_word p words)
  free-count =
      ap (λ (w : ℕ). sum max_machines (bit w)) free-is
      ∙ copies_in-within p of.cluster-of.valid.shaped.machines-max (free_word p words) (free_word-laws p words).below

  module _ (parts : List ℕ) (parted : PartedTo (free_in l c) c parts) where
    parts_are : (d : ℕ) → d < domains p → (k : ℕ) → bit (get_or parts d 0) k ≡ delta (domain p k) d * bit (free_word p words) k
    parts_are d b k =
        rw (← (cluster-domain p c of.cluster-of k), ← free-is)
        (parted.are d (omega (arith, feeds-are, feeds-max c range)) k)

    -- a part has a machine where the domain has a free place
    part_room : (d : ℕ) → d < domains p → ltb 0 (get_or parts d 0) ≡ ltb 0 (replicas_in p (free_word p words) d)
    part_room d b = same-room (get_or parts d 0) (replicas_in p (free_word p words) d) there back
      where
        there : 0 < get_or parts d 0 → 0 < replicas_in p (free_word p words) d
        there some =
            let found = bit_found (get_or parts d 0) some in
            let k = found.0 in
            let at = part-bit (free_in l c) c parts parted d k (omega (arith, feeds-are, feeds-max c range)) found.1 in
            let on : bit (free_word p words) k ≡ 1 = rw (← free-is) at.1 in
            let home : domain p k ≡ d = sym (cluster-domain p c of.cluster-of k) ∙ at.0 in
            let held = replicas_in-held p (free_word p words) k (bit-place _ (machines p) (free_word-laws p words).below k on) in
            omega (arith, on, rw home at held)

        back : 0 < replicas_in p (free_word p words) d → 0 < get_or parts d 0
        back some =
            let found = replicas_in-some p (free_word p words) d some in
            bit-some (get_or parts d 0) found.0
            (parts_are d b found.0 ∙ (rw (delta-same (domain p found.0) d found.2, found.3)))

    roomy-is : roomy_in parts c.feeds ≡ set_of (λ d. ltb 0 (replicas_in p (free_word p words) d)) (domains p)
    roomy-is =
        ap (roomy_in parts) feeds-are
        ∙ sum-cong (domains p) _ _ (λ d b. ap (λ (t : Bool). cond t (2 ^ d) 0) (part_room d b))

    pub roomy-count : sum max_machines (bit (roomy_in parts c.feeds)) ≡ domains_used p (free_word p words)
    unfolding domains_used
    roomy-count =
        let test : ℕ → Bool = λ d. ltb 0 (replicas_in p (free_word p words) d) in
        ap (λ (w : ℕ). sum max_machines (bit w)) roomy-is
        ∙ count-within max_machines (domains p) (set_of test (domains p)) (omega (arith, feeds-are, feeds-max c range))
        (set_of-below test (domains p))
        ∙ sum-cong (domains p) _ _ (λ d b. set_of-bit test (domains p) d b ∙ one-or-none (replicas_in p (free_word p words) d))

    pub spread-of : (weights : List ℕ) → WeightsOf l c weights → SpreadOf p words parts weights l.load (roomy_in parts c.feeds)
    unfolding domain_load
    spread-of weights weighed =
        record {
          parts_are = parts_are;
          weights-are = λ d b.
              weighed.are d (omega (arith, feeds-are, feeds-max c range))
              ∙ sum-cong (machines_in c) _ (λ m. cond (eqb (domain p m) d) (load p words m) 0)
              (λ m h. rw (of.loads-are m h, cluster-domain p c of.cluster-of m))
              ∙ ap (λ (n : ℕ). sum n (λ m. cond (eqb (domain p m) d) (load p words m) 0)) whole;
          loads-are = λ m h. of.loads-are m (rw whole h);
          roomy-is = roomy-is;
        }

  pub fill-of : FillOf p words (free_in l c) l.load
  fill-of = record { free-is = free-is; loads-are = λ m h. of.loads-are m (rw whole h) }

-- ── The choice ─────────────────────────────────────────────────────────────────────────────────────────────────────────

module _ (p : Plan) (words : List ℕ) (b : Block) where
  -- too few machines with a free place
  pub few-machines : replicas p (free_word p words) < b.min_replicas → 25 ≡ check25 p words b 0
  unfolding check25
  few-machines few = rw (lt-ltb _ _ few)

  -- enough of them, in too few domains
  pub few-domains : b.min_replicas ≤ replicas p (free_word p words) → domains_used p (free_word p words) < b.min_domains
      → 25 ≡ check25 p words b 0
  unfolding check25
  few-domains enough few = rw (le-ltb _ _ enough, lt-ltb _ _ few)

  pub enough-room : b.min_replicas ≤ replicas p (free_word p words) → b.min_domains ≤ domains_used p (free_word p words)
      → 0 ≡ check25 p words b 0
  unfolding check25
  enough-room enough spread = rw (le-ltb _ _ enough, le-ltb _ _ spread)

arrival-at : (p : Plan) (words : List ℕ) (b : Block) (least spread : ℕ) → b.min_replicas ≡ least → b.min_domains ≡ spread
    → arrival_word p words b ≡ filled_word p words (spread_word p words spread) (least - spread)
unfolding arrival_word
arrival-at p words b least spread ml ms = rw (ml, ms)

module _ (l : Loads) (c : Cluster) (least spread : ℕ) where
  pub placed-machines : sum max_machines (bit (free_in l c)) < least → PlacedOf l c least spread (Err NoMachine)
  placed-machines few =
      record {
        is = λ p words b of ml ms.
            record {
              code_is = few-machines p words b (omega (arith, free-count p words c l of, ml));
              word-is = tt;
            };
      }

  module _ (enough : least ≤ sum max_machines (bit (free_in l c))) (parts : List ℕ) (parted : PartedTo (free_in l c) c parts) where
    pub placed-domains : sum max_machines (bit (roomy_in parts c.feeds)) < spread
        → PlacedOf l c least spread (Err NoMachine)
    placed-domains few =
        record {
          is = λ p words b of ml ms.
              record {
                code_is =
                    few-domains p words b (omega (arith, free-count p words c l of, ml, enough))
                    (omega (arith, roomy-count p words c l of parts parted, ms));
                word-is = tt;
              };
        }

    pub placed-word : spread ≤ sum max_machines (bit (roomy_in parts c.feeds)) → (weights : List ℕ) → WeightsOf l c weights
        → (word filled : ℕ) → SpreadAs parts weights l.load (roomy_in parts c.feeds) spread word
        → ((p : Plan) (words : List ℕ) → FillOf p words (free_in l c) l.load → filled ≡ filled_word p words word (least - spread))
        → PlacedOf l c least spread (Ok filled)
    placed-word wide weights weighed word filled so fills =
        record {
          is = λ p words b of ml ms.
              record {
                code_is =
                    enough-room p words b (omega (arith, free-count p words c l of, ml, enough))
                    (omega (arith, roomy-count p words c l of parts parted, ms, wide));
                word-is = chosen p words b of ml ms;
              };
        }
      where
        chosen : (p : Plan) (words : List ℕ) (b : Block) → MachinesOf p words c l → b.min_replicas ≡ least → b.min_domains ≡ spread
            → filled ≡ arrival_word p words b
        chosen p words b of ml ms =
            fills p words (fill-of p words c l of)
            ∙ ap (λ (w : ℕ). filled_word p words w (least - spread)) (so.is p words (spread-of p words c l of parts parted weights weighed))
            ∙ sym (arrival-at p words b least spread ml ms)

-- ── MachinesOf ─────────────────────────────────────────────────────────────────────────────────────────────────────────

-- a lawful placement and its sums have the loads and copies of the plan's machines
module _ (p : Plan) (count : ℕ → ℕ) (c : Cluster) (words profiles : List ℕ) (l : Loads)
    (placement : PlacementOf p count c words profiles) (of : LoadsOf c words profiles l.load l.copies) where
  pub machines-of : MachinesOf p words c l
  machines-of =
      record {
        cluster-of = placement.profiles-of.cluster;
        loads-are = loads-load c words profiles l.load l.copies of p count placement;
        copies-are = copies-used c words profiles l.load l.copies of p placement.profiles-of.cluster;
      }

-- their loads are in range
pub place-asked : (c : Cluster) (words profiles : List ℕ) (l : Loads) (least spread : ℕ) → ProfilesFit c profiles
    → LoadsOf c words profiles l.load l.copies → spread ≤ least → PlaceAsked l c least spread
place-asked c words profiles l least spread fit of fewer =
    record {
      in-range = fit.in-range;
      load-narrow = loads-narrow c words profiles l.load l.copies of fit;
      spread-max = fewer;
    }
