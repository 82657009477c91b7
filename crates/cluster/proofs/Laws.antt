-- The numbers of a valid plan are in range, and its blocks' words give back what was put into them.
-- Assumes nothing.
use mathlib.Core.Path.{◌≡◌, refl, ap, sym, ◌∙◌}
use mathlib.Core.Bool.{Bool, true, false, cond, ◌||◌}
use mathlib.Core.List.{List}
use mathlib.Core.Logic.{inl, inr}
use Prim.Native.Nat.{ℕ, zero, suc, ◌+◌, ◌*◌, ◌-◌, ◌^◌, ◌≤◌, ◌<◌}
use native.Mathlib.Nat.{le_trans, one-le-mul, mul-le-mul_right}
use native.Mathlib.Omega.{arith}
use lib.ListN.{get_or}
use Rattle.order.proofs.Arithmetic.{divisor-le}
use Rattle.order.specs.Sum.{sum}
use Rattle.order.proofs.Sums.{sum-cong, sum-none}
use Rattle.order.proofs.Ranges.{sum-append}
use Rattle.order.proofs.Booleans.{bool_cases}
use Rattle.model.specs.Plan.{Plan, machines, domain, block_count, block_of, pairs_next, pairs_back, is_paired, partner, upper}
use Rattle.model.specs.Replication.{share}
use Rattle.model.specs.Refusal.{max_machines}
use Rattle.model.specs.Placement.{bit, word_of, replicas, count_of, share_of}
use Rattle.theory.specs.Widths.{most_replicas}
use Rattle.theory.specs.Refusal.{ValidBlock, Shaped, Valid}
use Rattle.theory.proofs.Plan.{partner-below, upper-max}
use Rattle.theory.proofs.Placement.{bit-above-from, share_of-feasible}
use Rattle.cluster.specs.declared.Cluster.{Cluster}
use Rattle.cluster.specs.Cluster.{machines_in, domain_in, InRange, cluster_of, ClusterOf}
use Rattle.cluster.specs.Blocks.{link_of, link_in, linked_to, mate, Linked, popularity_in, least_in, spread_asked, most_in, share_in, count_in, spread_in, demand_of, DemandsOf, copies_in, CountsFit, profile_of, ProfilesOf, PlacementOf}

-- ── InRange ────────────────────────────────────────────────────────────────────────────────────────────────────────────

-- one turn of the domains is not above the machines
pub range-turn : (c : Cluster) → InRange c → c.feeds * c.rack_size ≤ machines_in c
range-turn c range = mul-le-mul_right c.rack_size (divisor-le c.racks c.feeds range.racks-pos range.feeds-divide)

pub range-turn-pos : (c : Cluster) → InRange c → 1 ≤ c.feeds * c.rack_size
range-turn-pos c range = one-le-mul range.feeds-pos range.size-pos

-- ── ClusterOf ──────────────────────────────────────────────────────────────────────────────────────────────────────────

pub cluster_of-range : (p : Plan) → Valid p → InRange (cluster_of p)
cluster_of-range p valid =
    let s = valid.shaped in
    record {
      racks-pos = s.racks-pos;
      size-pos = s.size-pos;
      feeds-pos = s.feeds-pos;
      feeds-divide = s.feeds-divide;
      machines-max = s.machines-max;
      capacity-max = s.capacity-max;
      blocks-max = s.blocks-max;
    }

module _ (p : Plan) (c : Cluster) (of : ClusterOf p c) where
  pub cluster-range : InRange c
  cluster-range = rw of.is (cluster_of-range p of.valid)

  pub cluster-racks : c.racks ≡ p.racks
  cluster-racks = ap (λ (k : Cluster). k.racks) of.is

  pub cluster-size : c.rack_size ≡ p.rack_size
  cluster-size = ap (λ (k : Cluster). k.rack_size) of.is

  pub cluster-feeds : c.feeds ≡ p.feeds
  cluster-feeds = ap (λ (k : Cluster). k.feeds) of.is

  pub cluster-domain : (m : ℕ) → domain_in c m ≡ domain p m
  cluster-domain m = ap (λ (k : Cluster). domain_in k m) of.is

  pub cluster-capacity : c.capacity ≡ p.capacity
  cluster-capacity = ap (λ (k : Cluster). k.capacity) of.is

  pub cluster-blocks : c.blocks ≡ block_count p
  cluster-blocks = ap (λ (k : Cluster). k.blocks) of.is

  pub cluster-machines : machines_in c ≡ machines p
  cluster-machines = ap machines_in of.is

  pub cluster-block : (i : ℕ) → i < c.blocks → ValidBlock p i
  cluster-block i l = of.valid.shaped.block i (rw (cluster-blocks) at l)

-- ── link_of ─────────────────────────────────────────────────────────────────────────────────────────────────────────────

-- what a link says, by the two bytes that it goes by
link_of-cases : (p : Plan) (i : ℕ) → (link_of p i < 4) × (1 ≤ i + link_of p i) × (i + link_of p i - 1 ≡ mate p i)
unfolding link_of mate is_paired partner pairs_back
link_of-cases p zero = go (pairs_next p 0)
  where
    go : (a : Bool)
        → (cond a 2 1 < 4) × (1 ≤ 0 + cond a 2 1)
        × (0 + cond a 2 1 - 1 ≡ cond (a || false) (cond a 1 (0 - 1)) 0)
    go true = (omega arith, omega arith, refl)
    go false = (omega arith, omega arith, refl)
link_of-cases p (suc i) = go (pairs_next p (suc i)) (pairs_next p i)
  where
    go : (a b : Bool)
        → (cond a 2 (cond b 0 1) < 4) × (1 ≤ suc i + cond a 2 (cond b 0 1))
        × (suc i + cond a 2 (cond b 0 1) - 1 ≡ cond (a || b) (cond a (suc (suc i)) (suc i - 1)) (suc i))
    go true b = (omega arith, omega arith, omega arith)
    go false true = (omega arith, omega arith, omega arith)
    go false false = (omega arith, omega arith, omega arith)

pub link_of-narrow : (p : Plan) (i : ℕ) → link_of p i < 4
link_of-narrow p i = (link_of-cases p i).0

-- it leads to the partner, or to the block itself
pub link_of-mate : (p : Plan) (i : ℕ) → (1 ≤ i + link_of p i) × (i + link_of p i - 1 ≡ mate p i)
link_of-mate p i = ((link_of-cases p i).1, (link_of-cases p i).2)

-- it goes by the block's byte, and then by the preceding one's
pub link_of-next : (p : Plan) (i : ℕ) → pairs_next p i ≡ true → link_of p i ≡ 2
unfolding link_of
link_of-next p i e = rw e

pub link_of-first : (p : Plan) → pairs_next p 0 ≡ false → link_of p 0 ≡ 1
unfolding link_of pairs_back
link_of-first p e = rw e

pub link_of-back : (p : Plan) (i : ℕ) → 1 ≤ i → pairs_next p i ≡ false → link_of p i ≡ cond (pairs_next p (i - 1)) 0 1
unfolding link_of pairs_back
link_of-back p zero some e = absurd (omega arith)
link_of-back p (suc i) some e = let same : suc i - 1 ≡ i = omega arith in rw (e, same)

-- it is 1 exactly if the block is not paired
pub link_of-single : (p : Plan) (i : ℕ) → link_of p i ≡ 1 → is_paired p i ≡ false
unfolding link_of is_paired
link_of-single p i = go (pairs_next p i) (pairs_back p i)
  where
    go : (a b : Bool) → ◌≡◌ {A = ℕ} (cond a 2 (cond b 0 1)) 1 → (a || b) ≡ false
    go true b e = absurd (omega arith)
    go false true e = absurd (omega arith)
    go false false e = refl

pub link_of-paired : (p : Plan) (i : ℕ) → (link_of p i ≡ 1 → ⊥) → is_paired p i ≡ true
unfolding link_of is_paired
link_of-paired p i = go (pairs_next p i) (pairs_back p i)
  where
    go : (a b : Bool) → (◌≡◌ {A = ℕ} (cond a 2 (cond b 0 1)) 1 → ⊥) → (a || b) ≡ true
    go true b d = refl
    go false true d = refl
    go false false d = absurd (d refl)

-- ── mate ───────────────────────────────────────────────────────────────────────────────────────────────────────────────

pub mate-paired : (p : Plan) (i : ℕ) → is_paired p i ≡ true → mate p i ≡ partner p i
unfolding mate
mate-paired p i e = rw e

pub mate-single : (p : Plan) (i : ℕ) → is_paired p i ≡ false → mate p i ≡ i
unfolding mate
mate-single p i e = rw e

pub mate-below : (p : Plan) → Shaped p → (i : ℕ) → i < block_count p → mate p i < block_count p
mate-below p shaped i l = elim (bool_cases (is_paired p i)) [
  | inl e ↦ rw (mate-paired p i e) (partner-below p shaped i l e)
  | inr e ↦ rw (mate-single p i e) l
]

-- a word that ends in the block's link names the block's mate
module _ (p : Plan) (word i : ℕ) (ends : link_in word ≡ link_of p i) where
  pub linked_to-mate : linked_to word i ≡ mate p i
  linked_to-mate = rw ends (link_of-cases p i).2

  pub linked-mate : Shaped p → i < block_count p → Linked (block_count p) word i
  linked-mate shaped l =
      let cases = link_of-cases p i in
      record { some = rw ends cases.1; below = omega (arith, ends, cases.1, cases.2, mate-below p shaped i l) }

-- ── demand_of ───────────────────────────────────────────────────────────────────────────────────────────────────────────

-- the numbers of a valid block fit eight bits each
eight : (n k : ℕ) → n ≤ k → k ≤ most_replicas → n < 256
eight n k l m = omega arith

module _ (p : Plan) (i : ℕ) (b : ValidBlock p i) where
  least-narrow : (block_of p i).min_replicas < 256
  least-narrow = eight _ _ b.min-upper (upper-max p i)

  spread-narrow : (block_of p i).min_domains < 256
  spread-narrow = eight _ _ (le_trans b.domains-min b.min-upper) (upper-max p i)

  most_narrow : upper p i < 256
  most_narrow = eight _ _ (upper-max p i) (omega arith)

  pub demand_of-popularity : popularity_in (demand_of p i) ≡ (block_of p i).popularity
  unfolding demand_of
  demand_of-popularity =
      let l = least-narrow in let s = spread-narrow in let m = most_narrow in let k = link_of-narrow p i in omega arith

  pub demand_of-least : least_in (demand_of p i) ≡ (block_of p i).min_replicas
  unfolding demand_of
  demand_of-least =
      let l = least-narrow in let s = spread-narrow in let m = most_narrow in let k = link_of-narrow p i in omega arith

  pub demand_of-spread : spread_asked (demand_of p i) ≡ (block_of p i).min_domains
  unfolding demand_of
  demand_of-spread = let s = spread-narrow in let m = most_narrow in let k = link_of-narrow p i in omega arith

  pub demand_of-most : most_in (demand_of p i) ≡ upper p i
  unfolding demand_of
  demand_of-most = let m = most_narrow in let k = link_of-narrow p i in omega arith

pub demand_of-link : (p : Plan) (i : ℕ) → link_in (demand_of p i) ≡ link_of p i
unfolding demand_of
demand_of-link p i = let k = link_of-narrow p i in omega arith

-- ── DemandsOf ──────────────────────────────────────────────────────────────────────────────────────────────────────────

module _ (p : Plan) (c : Cluster) (demands : List ℕ) (of : DemandsOf p c demands) (i : ℕ) (l : i < c.blocks) where
  pub demands-popularity : popularity_in (get_or demands i 0) ≡ (block_of p i).popularity
  demands-popularity = rw (of.are i l) (demand_of-popularity p i (cluster-block p c of.cluster i l))

  pub demands-least : least_in (get_or demands i 0) ≡ (block_of p i).min_replicas
  demands-least = rw (of.are i l) (demand_of-least p i (cluster-block p c of.cluster i l))

  pub demands-spread : spread_asked (get_or demands i 0) ≡ (block_of p i).min_domains
  demands-spread = rw (of.are i l) (demand_of-spread p i (cluster-block p c of.cluster i l))

  pub demands-most : most_in (get_or demands i 0) ≡ upper p i
  demands-most = rw (of.are i l) (demand_of-most p i (cluster-block p c of.cluster i l))

  pub demands-link : link_in (get_or demands i 0) ≡ link_of p i
  demands-link = rw (of.are i l) (demand_of-link p i)

-- ── copies_in ───────────────────────────────────────────────────────────────────────────────────────────────────────────

-- below 2 ^ M, the sum of the first n bits is that of the first M
bits-within : (n M w : ℕ) → M ≤ n → w < 2 ^ M → sum n (bit w) ≡ sum M (bit w)
bits-within n M w l h =
    let cut : M + (n - M) ≡ n = omega arith in
    let above : sum (n - M) (λ j. bit w (M + j)) ≡ 0 =
    sum-cong (n - M) _ (λ j. 0) (λ j b. bit-above-from w M h (M + j) (omega arith)) ∙ sum-none (n - M)
    in
    ap (λ (k : ℕ). sum k (bit w)) (sym cut) ∙ sum-append M (n - M) (bit w) ∙ (omega arith)

-- a word that names the plan's machines alone has as many copies as the plan counts
pub copies_in-within : (p : Plan) → machines p ≤ max_machines → (word : ℕ) → word < 2 ^ machines p → copies_in word ≡ replicas p word
unfolding replicas
copies_in-within p most word below = bits-within max_machines (machines p) word most below

-- ── CountsFit ──────────────────────────────────────────────────────────────────────────────────────────────────────────

-- the copies held are the plan's own counts of the words, from its least copies to its upper counts
module _ (p : Plan) (c : Cluster) (words demands : List ℕ) (of : DemandsOf p c demands) (fit : CountsFit c words demands)
    (i : ℕ) (l : i < c.blocks) where
  pub counts-held : copies_in (word_of words i) ≡ count_of p words i
  counts-held =
      copies_in-within p of.cluster.valid.shaped.machines-max (word_of words i)
      (rw (cluster-machines p c of.cluster) at (fit.within i l))

  pub counts-upper : count_of p words i ≤ upper p i
  counts-upper = rw (counts-held, demands-most p c demands of i l) at (fit.at_most i l)

  pub counts-pos : 1 ≤ count_of p words i
  counts-pos = rw counts-held at (le_trans (fit.demands-fit.each i l).least-pos (fit.at_least i l))

-- ── profile_of ──────────────────────────────────────────────────────────────────────────────────────────────────────────

module _ (p : Plan) (count : ℕ → ℕ) (i : ℕ) (b : ValidBlock p i) (few : count i ≤ most_replicas) where
  pub profile_of-share : share_in (profile_of p count i) ≡ share (block_of p i).popularity (count i)
  unfolding profile_of
  profile_of-share = let s = spread-narrow p i b in let k = link_of-narrow p i in omega arith

  pub profile_of-count : count_in (profile_of p count i) ≡ count i
  unfolding profile_of
  profile_of-count = let s = spread-narrow p i b in let k = link_of-narrow p i in omega arith

  pub profile_of-spread : spread_in (profile_of p count i) ≡ (block_of p i).min_domains
  unfolding profile_of
  profile_of-spread = let s = spread-narrow p i b in let k = link_of-narrow p i in omega arith

pub profile_of-link : (p : Plan) (count : ℕ → ℕ) (i : ℕ) → link_in (profile_of p count i) ≡ link_of p i
unfolding profile_of
profile_of-link p count i = let k = link_of-narrow p i in omega arith

-- ── ProfilesOf ─────────────────────────────────────────────────────────────────────────────────────────────────────────

-- at counts that are at most the upper counts
module _ (p : Plan) (count : ℕ → ℕ) (c : Cluster) (profiles : List ℕ) (of : ProfilesOf p count c profiles)
    (at_most : (i : ℕ) → i < block_count p → count i ≤ upper p i) (i : ℕ) (l : i < c.blocks) where
  in-plan : i < block_count p
  in-plan = rw (cluster-blocks p c of.cluster) at l

  count-few : count i ≤ most_replicas
  count-few = le_trans (at_most i in-plan) (upper-max p i)

  pub profiles-share : share_in (get_or profiles i 0) ≡ share (block_of p i).popularity (count i)
  profiles-share = rw (of.are i l) (profile_of-share p count i (cluster-block p c of.cluster i l) count-few)

  pub profiles-count : count_in (get_or profiles i 0) ≡ count i
  profiles-count = rw (of.are i l) (profile_of-count p count i (cluster-block p c of.cluster i l) count-few)

  pub profiles-spread : spread_in (get_or profiles i 0) ≡ (block_of p i).min_domains
  profiles-spread = rw (of.are i l) (profile_of-spread p count i (cluster-block p c of.cluster i l) count-few)

pub profiles-mate : (p : Plan) (count : ℕ → ℕ) (c : Cluster) (profiles : List ℕ) → ProfilesOf p count c profiles
    → (i : ℕ) → i < c.blocks → linked_to (get_or profiles i 0) i ≡ mate p i
profiles-mate p count c profiles of i l =
    linked_to-mate p (get_or profiles i 0) i (rw (of.are i l) (profile_of-link p count i))

-- ── PlacementOf ────────────────────────────────────────────────────────────────────────────────────────────────────────

module _ (p : Plan) (count : ℕ → ℕ) (c : Cluster) (words profiles : List ℕ) (of : PlacementOf p count c words profiles)
    (i : ℕ) (l : i < c.blocks) where
  pub placement-block : i < block_count p
  placement-block = rw (cluster-blocks p c of.profiles-of.cluster) at l

  pub placement-share : share_in (get_or profiles i 0) ≡ share_of p words i
  placement-share =
      profiles-share p count c profiles of.profiles-of of.feasible.counts.at_most i l
      ∙ share_of-feasible p count words of.feasible i placement-block

  pub placement-spread : spread_in (get_or profiles i 0) ≡ (block_of p i).min_domains
  placement-spread = profiles-spread p count c profiles of.profiles-of of.feasible.counts.at_most i l

-- a machine of the cluster is one of the plan
pub placement-machine : (p : Plan) (count : ℕ → ℕ) (c : Cluster) (words profiles : List ℕ) → PlacementOf p count c words profiles
    → (m : ℕ) → m < machines_in c → m < machines p
placement-machine p count c words profiles of m l = rw (cluster-machines p c of.profiles-of.cluster) at l
