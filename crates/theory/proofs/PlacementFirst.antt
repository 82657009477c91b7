-- Laws of the first placement, the second part of Placement: positions are the machines in another order, and the copies laid on
-- consecutive positions make a lawful placement.
-- Assumes nothing.
use mathlib.Core.Path.{◌≡◌, refl, ap, sym, ◌∙◌}
use mathlib.Core.Bool.{true}
use mathlib.Core.List.{List}
use mathlib.Core.Logic.{inl, inr}
use Prim.Native.Nat.{ℕ, zero, suc, ◌+◌, ◌*◌, ◌/◌, ◌%◌, ◌^◌, ◌≤◌, ◌<◌, min}
use native.Mathlib.Nat.{mul_comm, le_trans, mod-lt, div-lt_iff_lt-mul, div-add-mod', le-min, min-le_right}
use native.Mathlib.Numerals.{add-one}
use native.Mathlib.Omega.{arith}
use lib.Arith.{digits_lt, digits_div, digits_mod}
use lib.Pow.{pow_pos}
use Rattle.order.specs.Sum.{sum, delta}
use Rattle.order.specs.Table.{table}
use Rattle.order.proofs.Sums.{sum-suc, sum-cong, sum_ones, delta-same, delta-iff, delta-sym}
use Rattle.order.proofs.Ranges.{sum-append, sum-pieces, sum-image}
use Rattle.order.proofs.Residues.{residue-bound, residue-once, residues-met}
use Rattle.order.proofs.Tables.{get_d-table}
use Rattle.model.specs.Plan.{Plan, machines, domain, domains, block_count, block_of, pairs_next, is_paired, partner}
use Rattle.model.specs.Replication.{copy_limit, FeasibleCounts, chosen}
use Rattle.model.specs.Placement.{bit, word_of, held, replicas, replicas_in, domains_used, used, Feasible, position, laid_word, first_word, first_placement}
use Rattle.theory.specs.Refusal.{Shaped}
use Rattle.theory.specs.Placement.{FirstFeasible}
use Rattle.theory.proofs.Plan.{machines-pos, domains-pos, domains-mod-racks, domains-mod, is_paired-first, is_paired-second, partner-pair, upper-machines, upper-pair}
use Rattle.theory.proofs.Replication.{chosen-counts}
use Rattle.theory.proofs.Placement.{bit-zero, bit-add, bit-add-below, replicas_in-delta}

-- ── position ─────────────────────────────────────────────────────────────────────────────────────
-- The position of machine m.
unfoldable position_of : Plan → ℕ → ℕ
position_of p m = m % p.rack_size * p.racks + m / p.rack_size

module _ (p : Plan) (shaped : Shaped p) where
  module _ (t : ℕ) (below : t < machines p) where
    residue : t % p.racks < p.racks
    residue = mod-lt t shaped.racks-pos

    offset : t / p.racks < p.rack_size
    offset = (div-lt_iff_lt-mul shaped.racks-pos).1 (rw (mul_comm p.rack_size p.racks) below)

    pub position-below : position p t < machines p
    unfolding position
    position-below = digits_lt residue offset

    position-offset : position p t % p.rack_size ≡ t / p.racks
    unfolding position
    position-offset = digits_mod (t % p.racks) offset

    position-rack : position p t / p.rack_size ≡ t % p.racks
    unfolding position
    position-rack = digits_div (t % p.racks) offset

    -- consecutive positions are in consecutive domains
    pub position-domain : domain p (position p t) ≡ t % domains p
    position-domain = ap (λ (r : ℕ). r % domains p) position-rack ∙ domains-mod-racks p shaped t

    position_of-position : position_of p (position p t) ≡ t
    unfolding position_of
    position_of-position = rw (position-rack, position-offset) (div-add-mod' t p.racks)

  pub position-injective : (s t : ℕ) → s < machines p → t < machines p → position p s ≡ position p t → s ≡ t
  position-injective s t ls lt e =
      sym (position_of-position s ls) ∙ ap (position_of p) e ∙ position_of-position t lt

  module _ (m : ℕ) (below : m < machines p) where
    rack : m / p.rack_size < p.racks
    rack = (div-lt_iff_lt-mul shaped.size-pos).1 below

    position_of-below : position_of p m < machines p
    unfolding position_of
    position_of-below = rw (mul_comm p.racks p.rack_size) (digits_lt (mod-lt m shaped.size-pos) rack)

    position-position_of : position p (position_of p m) ≡ m
    unfolding position position_of
    position-position_of =
        rw (digits_mod (m % p.rack_size) rack, digits_div (m % p.rack_size) rack) (div-add-mod' m p.rack_size)

-- every machine is at a position
pub position-onto : (p : Plan) → Shaped p → (m : ℕ) → m < machines p → (t : ℕ) × (t < machines p) × (position p t ≡ m)
position-onto p shaped m l = (position_of p m, position_of-below p shaped m l, position-position_of p shaped m l)

-- The machine of copy q of all.
abbrev pub machine_of : Plan → ℕ → ℕ
machine_of p q = position p (q % machines p)

module _ (p : Plan) (shaped : Shaped p) where
  pub machine_of-below : (q : ℕ) → machine_of p q < machines p
  machine_of-below q = position-below p shaped (q % machines p) (mod-lt q (machines-pos p shaped))

  -- consecutive copies are in consecutive domains
  pub machine_of-domain : (q : ℕ) → domain p (machine_of p q) ≡ q % domains p
  machine_of-domain q = position-domain p shaped (q % machines p) (mod-lt q (machines-pos p shaped)) ∙ domains-mod p shaped q

  -- copies are on the same machine exactly where they are at the same position
  same-position : (t : ℕ) → t < machines p → (k : ℕ) (copy : ℕ → ℕ)
      → sum k (λ j. delta (position p t) (machine_of p (copy j))) ≡ sum k (λ j. delta t (copy j % machines p))
  same-position t l k copy =
      sum-cong k (λ j. delta (position p t) (machine_of p (copy j))) (λ j. delta t (copy j % machines p))
      (λ j h. delta-iff (position p t) (machine_of p (copy j)) t (copy j % machines p)
      (position-injective p shaped t (copy j % machines p) l (mod-lt (copy j) (machines-pos p shaped)))
      (ap (position p)))

-- ── laid_word ─────────────────────────────────────────────────────────────────────────────────────
module _ (p : Plan) (shaped : Shaped p) (start : ℕ) where
  pub laid_word-step : (k : ℕ) → laid_word p start (k + 1) ≡ laid_word p start k + 2 ^ machine_of p (start + k)
  unfolding laid_word
  laid_word-step k = rw add-one (sum-suc k (λ j. 2 ^ machine_of p (start + j)))

  -- the word is one of M bits, and bit m counts the copies on m
  abbrev Laid : ℕ → Type 0
  Laid k =
      (laid_word p start k < 2 ^ machines p)
      × ((m : ℕ) → bit (laid_word p start k) m ≡ sum k (λ j. delta m (machine_of p (start + j))))

  -- the next copy lies on another machine than those before it
  fresh : (k : ℕ) → k < machines p → sum k (λ j. delta (machine_of p (start + k)) (machine_of p (start + j))) ≡ 0
  fresh k l =
      let t = (start + k) % machines p in
      let pos = machines-pos p shaped in
      let below : t < machines p = mod-lt (start + k) pos in
      let once = residue-once (machines p) pos t below start (suc k) l in
      let last = sum-suc k (λ j. delta t ((start + j) % machines p)) in
      let same = delta-same t t refl in
      same-position p shaped t below k (λ j. start + j) ∙ (omega arith)

  laid : (k : ℕ) → k ≤ machines p → Laid k
  unfolding laid_word sum
  laid zero h = (pow_pos (machines p), bit-zero)
  laid (suc k) h =
      let before = laid k (omega arith) in
      let place = machine_of p (start + k) in
      let clear : bit (laid_word p start k) place ≡ 0 = before.1 place ∙ fresh k h in (
        bit-add-below (laid_word p start k) (machines p) place before.0 (machine_of-below p shaped (start + k)) clear,
        λ m. bit-add (laid_word p start k) place clear m ∙ ap (λ (x : ℕ). x + delta m place) (before.1 m),
      )

  module _ (k : ℕ) (few : k ≤ machines p) where
    pub laid_word-below : laid_word p start k < 2 ^ machines p
    laid_word-below = (laid k few).0

    pub laid_word-bits : (m : ℕ) → bit (laid_word p start k) m ≡ sum k (λ j. delta m (machine_of p (start + j)))
    laid_word-bits = (laid k few).1

    -- a sum over the machines that hold a copy is one over the copies
    laid_word-sum : (f : ℕ → ℕ) → sum (machines p) (λ m. f m * bit (laid_word p start k) m) ≡ sum k (λ j. f (machine_of p (start + j)))
    laid_word-sum f =
        sum-cong (machines p) (λ m. f m * bit (laid_word p start k) m)
        (λ m. f m * sum k (λ j. delta m (machine_of p (start + j)))) (λ m l. ap (λ (x : ℕ). f m * x) (laid_word-bits m))
        ∙ sum-image (machines p) k (λ j. machine_of p (start + j)) f (λ j l. machine_of-below p shaped (start + j))

    pub laid_word-replicas : replicas p (laid_word p start k) ≡ k
    unfolding replicas
    laid_word-replicas =
        sum-cong (machines p) (bit (laid_word p start k)) (λ m. 1 * bit (laid_word p start k) m) (λ m l. omega arith)
        ∙ laid_word-sum (λ m. 1)
        ∙ sum_ones k

    -- its copies in domain d: they are in consecutive domains
    laid_word-replicas_in : (d : ℕ) → replicas_in p (laid_word p start k) d ≡ sum k (λ j. delta d ((start + j) % domains p))
    laid_word-replicas_in d =
        replicas_in-delta p (laid_word p start k) d
        ∙ laid_word-sum (λ m. delta (domain p m) d)
        ∙ sum-cong k (λ j. delta (domain p (machine_of p (start + j))) d) (λ j. delta d ((start + j) % domains p))
        (λ j l. ap (λ (x : ℕ). delta x d) (machine_of-domain p shaped (start + j)) ∙ delta-sym ((start + j) % domains p) d)

    pub laid_word-domains_used : domains_used p (laid_word p start k) ≡ min k (domains p)
    unfolding domains_used
    laid_word-domains_used =
        sum-cong (domains p) (λ d. min 1 (replicas_in p (laid_word p start k) d))
        (λ d. min 1 (sum k (λ j. delta d ((start + j) % domains p)))) (λ d l. ap (min 1) (laid_word-replicas_in d))
        ∙ residues-met (domains p) (domains-pos p shaped) start k

  pub laid_word-fresh : (k : ℕ) → k < machines p → bit (laid_word p start k) (machine_of p (start + k)) ≡ 0
  laid_word-fresh k l = laid_word-bits k (omega arith) (machine_of p (start + k)) ∙ fresh k l

-- ── first_placement ───────────────────────────────────────────────────────────────────────────────
-- The placement that lays the given counts in file order.
abbrev pub laid_placement : Plan → (ℕ → ℕ) → List ℕ
laid_placement p count = table (block_count p) (λ i. laid_word p (sum i count) (count i))

laid_placement-word : (p : Plan) (count : ℕ → ℕ) (i : ℕ) → i < block_count p
    → word_of (laid_placement p count) i ≡ laid_word p (sum i count) (count i)
laid_placement-word p count i l = get_d-table (block_count p) (λ j. laid_word p (sum j count) (count j)) i 0 l

module _ (p : Plan) (shaped : Shaped p) (count : ℕ → ℕ) (few : (i : ℕ) → i < block_count p → count i ≤ machines p) where
  -- machine m holds those of all the copies that are laid on it
  laid_placement-on : (m : ℕ) → used p (laid_placement p count) m ≡ sum (sum (block_count p) count) (λ q. delta m (machine_of p q))
  unfolding used
  laid_placement-on m =
      sum-cong (block_count p) (held (laid_placement p count) m)
      (λ i. sum (count i) (λ j. delta m (machine_of p (sum i count + j))))
      (λ i l.
      ap (λ (w : ℕ). bit w m) (laid_placement-word p count i l) ∙ laid_word-bits p shaped (sum i count) (count i) (few i l) m)
      ∙ sum-pieces (block_count p) count (λ q. delta m (machine_of p q))

  -- a position gets every M-th copy, so no more than C of M × C
  laid_placement-fits : sum (block_count p) count ≤ machines p * p.capacity → (m : ℕ) → m < machines p
      → used p (laid_placement p count) m ≤ p.capacity
  laid_placement-fits places m l =
      let all = sum (block_count p) count in
      let at = position-onto p shaped m l in
      let t = at.0 in
      let copies : used p (laid_placement p count) (position p t) ≡ sum all (λ q. delta t (q % machines p)) =
      laid_placement-on (position p t) ∙ same-position p shaped t at.1 all (λ q. q)
      in
      let fits : used p (laid_placement p count) (position p t) ≤ p.capacity =
      rw copies (residue-bound (machines p) (machines-pos p shaped) t at.1 all p.capacity places)
      in
      rw at.2 at fits

  -- a pair's copies have consecutive numbers, too: where there are at most M of them, no machine gets two
  laid_placement-apart : (f : ℕ) → suc f < block_count p → count f + count (suc f) ≤ machines p → (m : ℕ) → m < machines p
      → held (laid_placement p count) m f + held (laid_placement p count) m (suc f) ≤ 1
  laid_placement-apart f below room m l =
      let at = position-onto p shaped m l in
      let t = at.0 in
      let start = sum f count in
      let fl : f < block_count p = omega arith in
      let own : held (laid_placement p count) m f ≡ sum (count f) (λ j. delta m (machine_of p (start + j))) =
      ap (λ (w : ℕ). bit w m) (laid_placement-word p count f fl) ∙ laid_word-bits p shaped start (count f) (few f fl) m
      in
      let after : sum (suc f) count ≡ start + count f = sum-suc f count in
      let next : held (laid_placement p count) m (suc f) ≡ sum (count (suc f)) (λ j. delta m (machine_of p (start + (count f + j)))) =
      ap (λ (w : ℕ). bit w m) (laid_placement-word p count (suc f) below)
      ∙ laid_word-bits p shaped (sum (suc f) count) (count (suc f)) (few (suc f) below) m
      ∙ sum-cong (count (suc f)) _ _ (λ j h. ap (λ (x : ℕ). delta m (machine_of p x)) (omega arith))
      in
      let both = sum-append (count f) (count (suc f)) (λ j. delta m (machine_of p (start + j))) in
      let same : sum (count f + count (suc f)) (λ j. delta m (machine_of p (start + j))) ≡ sum (count f + count (suc f)) (λ j. delta t ((start + j) % machines p)) =
      ap (λ (x : ℕ). sum (count f + count (suc f)) (λ j. delta x (machine_of p (start + j)))) (sym at.2)
      ∙ same-position p shaped t at.1 (count f + count (suc f)) (λ j. start + j)
      in
      let once = residue-once (machines p) (machines-pos p shaped) t at.1 start (count f + count (suc f)) room in
      omega arith

-- The copies of all blocks, in file order, are numbered 0, 1, 2 and so on, and copy q is laid on position q mod M. A block's copies
-- have consecutive numbers, at most M of them, so they are at different positions: on different machines. Consecutive positions are
-- in consecutive racks, and so in consecutive domains, since F divides R: k copies lie in the smaller of k and F of them, and a spread is
-- at most both. A position gets one in M
-- of all the copies, and there are at most M × C, so no machine holds more than C. The two blocks of a pair follow each other and
-- have at most half of M copies each, so their copies have at most M consecutive numbers: no machine holds both blocks.
pub laid_placement-feasible : (p : Plan) → Shaped p → (count : ℕ → ℕ) → FeasibleCounts p count → Feasible p count (laid_placement p count)
unfolding copy_limit
laid_placement-feasible p shaped count counts =
    record {
      counts = counts;
      within = λ i l. rw (laid_placement-word p count i l) (laid_word-below p shaped (sum i count) (count i) (few i l));
      counted = λ i l. rw (laid_placement-word p count i l) (laid_word-replicas p shaped (sum i count) (count i) (few i l));
      spread = λ i l. rw (laid_placement-word p count i l, laid_word-domains_used p shaped (sum i count) (count i) (few i l)) (spread i l);
      fits = laid_placement-fits p shaped count few (le_trans counts.in-limit (min-le_right p.budget (machines p * p.capacity)));
      apart = apart;
    }
  where
    few : (i : ℕ) → i < block_count p → count i ≤ machines p
    few i l = le_trans (counts.at_most i l) (upper-machines p i)

    spread : (i : ℕ) → i < block_count p → (block_of p i).min_domains ≤ min (count i) (domains p)
    spread i l =
        let valid = shaped.block i l in
        le-min (le_trans valid.domains-min (counts.at_least i l)) valid.domains-all

    -- half of M for each of the two
    half : (f : ℕ) → suc f < block_count p → pairs_next p f ≡ true → count f + count (suc f) ≤ machines p
    half f l marked =
        omega (
          arith,
          counts.at_most f (omega arith),
          counts.at_most (suc f) l,
          upper-pair p f (is_paired-first p f marked),
          upper-pair p (suc f) (is_paired-second p f marked),
        )

    apart : (i : ℕ) → i < block_count p → is_paired p i ≡ true → (m : ℕ) → m < machines p
        → held (laid_placement p count) m i + held (laid_placement p count) m (partner p i) ≤ 1
    apart i l paired m h =
        let pair = partner-pair p shaped i l paired in
        let f = pair.head in
        let kept = laid_placement-apart p shaped count few f pair.below (half f pair.below pair.marked) m h in
        elim pair.which [
          | inl e ↦ omega (arith, kept, ap (held (laid_placement p count) m) e.0, ap (held (laid_placement p count) m) e.1)
          | inr e ↦ omega (arith, kept, ap (held (laid_placement p count) m) e.0, ap (held (laid_placement p count) m) e.1)
        ]

pub first_placement-feasible : FirstFeasible
unfolding first_placement first_word
first_placement-feasible p valid = laid_placement-feasible p valid.shaped (chosen p) (chosen-counts p valid).feasible
