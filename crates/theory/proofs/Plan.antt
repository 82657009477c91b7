-- Laws of the plan's definitions: its machines and failure domains, its pairs and upper counts, and the fields that bytes hold.
-- What is proved of spreads goes by the laws of `domain`, `domains`, `domain_size` and `member`, and not by racks or feeds.
-- Assumes nothing.
use mathlib.Core.Path.{◌≡◌, refl, ap, ap₂, sym, ◌∙◌}
use mathlib.Core.Bool.{Bool, true, false, cond, ◌||◌}
use mathlib.Core.List.{List}
use mathlib.Core.Logic.{◌⊎◌, inl, inr}
use Prim.Native.Nat.{ℕ, zero, suc, ◌+◌, ◌*◌, ◌/◌, ◌%◌, ◌^◌, ◌≤◌, ◌<◌, min}
use native.Mathlib.Nat.{one-le-mul, div-lt_iff_lt-mul, mod-lt, mod-mod_of_dvd, dvd-mul_left, dvd-mul_right, div-add-mod', min-le_left, min-le_right, le_trans, zero-mul, add-mul, mul_assoc, mul-le-mul, pow-suc, pow-le-pow_right}
use native.Mathlib.Omega.{arith}
use borrow.Author.Tests.{lt-ltb, le-ltb}
use lib.Dec.{lit<, ltb}
use lib.Arith.{digits_div, digits_mod, digits_lt}
use lib.ListN.{get_or, take}
use lib.Seq.{get_or-take}
use Rattle.order.specs.Sum.{sum, delta}
use Rattle.order.proofs.Arithmetic.{divisor-le}
use Rattle.order.proofs.Booleans.{no-contradiction, not_so, cond-all}
use Rattle.order.proofs.Ranges.{sum-strided}
use Rattle.order.proofs.Tables.{length-table, get_d-table}
use Rattle.model.specs.Plan.{Plan, machines, rack_of, domains, domain, domain_size, block_count, no_block, block_of, preceding, pairs_next, pairs_back, is_paired, partner, max_replicas, upper, field, latest_version, format_of, format_in, record_at, block_in, block_count_in, plan_in}
use Rattle.model.specs.Conversion.{with_version}
use Rattle.theory.specs.Widths.{most_replicas, widest_popularity}
use Rattle.theory.specs.Refusal.{ValidPair, Shaped}

-- ── machines ─────────────────────────────────────────────────────────────────────────────────────
pub machines-pos : (p : Plan) → Shaped p → 1 ≤ machines p
machines-pos p shaped = one-le-mul shaped.racks-pos shaped.size-pos

-- ── domains ──────────────────────────────────────────────────────────────────────────────────────
pub domains-pos : (p : Plan) → Shaped p → 1 ≤ domains p
domains-pos p shaped = shaped.feeds-pos

-- The racks of each domain.
abbrev pub turns : Plan → ℕ
turns p = p.racks / domains p

-- every domain has as many racks
pub domains-turns : (p : Plan) → Shaped p → turns p * domains p ≡ p.racks
domains-turns p shaped = let whole = div-add-mod' p.racks (domains p) in omega (arith, shaped.feeds-divide)

pub turns-pos : (p : Plan) → Shaped p → 1 ≤ turns p
turns-pos p shaped = go (turns p) (domains-turns p shaped)
  where
    go : (n : ℕ) → n * domains p ≡ p.racks → 1 ≤ n
    go zero e = absurd (omega (arith, zero-mul (domains p), shaped.racks-pos))
    go (suc n) e = omega arith

-- there are no more domains than racks
pub domains-le : (p : Plan) → Shaped p → domains p ≤ p.racks
domains-le p shaped = divisor-le p.racks (domains p) shaped.racks-pos shaped.feeds-divide

-- numbers counted around the racks, or around the machines, are counted around the domains, too
pub domains-mod-racks : (p : Plan) → Shaped p → (q : ℕ) → q % p.racks % domains p ≡ q % domains p
domains-mod-racks p shaped q = rw (← (domains-turns p shaped)) (mod-mod_of_dvd (domains p) q (dvd-mul_left (domains p) (turns p)))

pub domains-mod : (p : Plan) → Shaped p → (q : ℕ) → q % machines p % domains p ≡ q % domains p
domains-mod p shaped q =
    sym (domains-mod-racks p shaped (q % machines p))
    ∙ ap (λ (x : ℕ). x % domains p) (mod-mod_of_dvd p.racks q (dvd-mul_right p.racks p.rack_size))
    ∙ domains-mod-racks p shaped q

-- ── domain ───────────────────────────────────────────────────────────────────────────────────────
-- every machine lies in a domain
pub domain-lt : (p : Plan) → Shaped p → (m : ℕ) → domain p m < domains p
domain-lt p shaped m = mod-lt (rack_of p m) shaped.feeds-pos

-- the machines of a rack lie in one domain
pub domain-rack : (p : Plan) (m n : ℕ) → rack_of p m ≡ rack_of p n → domain p m ≡ domain p n
domain-rack p m n e = ap (λ (r : ℕ). r % p.feeds) e

-- ── domain_size ───────────────────────────────────────────────────────────────────────────────────
pub domain_size-pos : (p : Plan) → Shaped p → 1 ≤ domain_size p
domain_size-pos p shaped = one-le-mul (turns-pos p shaped) shaped.size-pos

-- Machine x of domain d, by its racks' order.
abbrev pub member : Plan → ℕ → ℕ → ℕ
member p d x = (x / p.rack_size * domains p + d) * p.rack_size + x % p.rack_size

module _ (p : Plan) (shaped : Shaped p) (d x : ℕ) (h : d < domains p) where
  pub member-lt : x < domain_size p → member p d x < machines p
  member-lt l =
      let turn : x / p.rack_size < turns p = (div-lt_iff_lt-mul shaped.size-pos).1 l in
      let rack : x / p.rack_size * domains p + d < turns p * domains p = digits_lt turn h in
      digits_lt (rw (domains-turns p shaped) at rack) (mod-lt x shaped.size-pos)

  pub member-domain : domain p (member p d x) ≡ d
  member-domain =
      ap (λ (r : ℕ). r % domains p) (digits_div (x / p.rack_size * domains p + d) (mod-lt x shaped.size-pos))
      ∙ digits_mod (x / p.rack_size) h

-- its machines are x of each of its racks, and those are one turn of the domains apart
pub member-turn : (p : Plan) (d q x : ℕ) → x < p.rack_size
    → member p d (q * p.rack_size + x) ≡ q * (domains p * p.rack_size) + (d * p.rack_size + x)
member-turn p d q x l =
    ap₂ (λ (r y : ℕ). (r * domains p + d) * p.rack_size + y) (digits_div q l) (digits_mod q l)
    ∙ (omega (arith, add-mul (q * domains p) d p.rack_size, mul_assoc q (domains p) p.rack_size))

-- a sum over the machines of a domain is one over its members
pub member-sum : (p : Plan) → Shaped p → (d : ℕ) (f : ℕ → ℕ) → d < domains p
    → sum (machines p) (λ m. delta (domain p m) d * f m) ≡ sum (domain_size p) (λ x. f (member p d x))
member-sum p shaped d f l =
    ap (λ (r : ℕ). sum (r * p.rack_size) (λ m. delta (domain p m) d * f m)) (sym (domains-turns p shaped))
    ∙ sum-strided (turns p) (domains p) p.rack_size d f l

-- ── pairs_back ────────────────────────────────────────────────────────────────────────────────────
-- no block is paired with one past the last
pub pairs_back-end : (p : Plan) → Shaped p → pairs_back p (block_count p) ≡ false
unfolding pairs_back
pairs_back-end p shaped = go (block_count p) refl
  where
    go : (n : ℕ) → n ≡ block_count p → preceding (λ k. pairs_next p k) n ≡ false
    go zero e = refl
    go (suc i) e = not_so (pairs_next p i) (λ marked. omega (arith, e, (shaped.pair i (omega arith)).next-below marked))

-- ── is_paired ─────────────────────────────────────────────────────────────────────────────────────
-- both blocks of a pair are paired, and no others are
pub is_paired-first : (p : Plan) (f : ℕ) → pairs_next p f ≡ true → is_paired p f ≡ true
unfolding is_paired
is_paired-first p f e = rw e

pub is_paired-back : (p : Plan) (i : ℕ) → pairs_back p i ≡ true → is_paired p i ≡ true
unfolding is_paired
is_paired-back p i e = rw e (or-true (pairs_next p i))
  where
    or-true : (a : Bool) → (a || true) ≡ true
    or-true true = refl
    or-true false = refl

pub is_paired-second : (p : Plan) (f : ℕ) → pairs_next p f ≡ true → is_paired p (suc f) ≡ true
unfolding pairs_back
is_paired-second p f e = is_paired-back p (suc f) e

is_paired-cases : (p : Plan) (i : ℕ) → is_paired p i ≡ true
    → (pairs_next p i ≡ true) ⊎ ((f : ℕ) × (i ≡ suc f) × (pairs_next p f ≡ true))
unfolding is_paired pairs_back
is_paired-cases p zero e = go (pairs_next p 0) e
  where
    go : (a : Bool) → (a || false) ≡ true → (a ≡ true) ⊎ ((f : ℕ) × (0 ≡ suc f) × (pairs_next p f ≡ true))
    go true e = inl refl
    go false e = no-contradiction (sym e)
is_paired-cases p (suc f) e = go (pairs_next p (suc f)) e
  where
    go : (a : Bool) → (a || pairs_next p f) ≡ true → (a ≡ true) ⊎ ((g : ℕ) × (suc f ≡ suc g) × (pairs_next p g ≡ true))
    go true e = inl refl
    go false e = inr (f, refl, e)

-- ── partner ──────────────────────────────────────────────────────────────────────────────────────
-- A pair: its first block, which is paired with the next one, and which of the two block i is.
pub record PairOf (p : Plan) (i : ℕ) : Type 0 where
  pub head : ℕ
  pub below : suc head < block_count p
  pub marked : pairs_next p head ≡ true
  pub which : ((i ≡ head) × (partner p i ≡ suc head)) ⊎ ((i ≡ suc head) × (partner p i ≡ head))

module _ (p : Plan) (shaped : Shaped p) where
  -- the two blocks of a pair, each the other's partner
  pub partner-first : (f : ℕ) → pairs_next p f ≡ true → partner p f ≡ suc f
  unfolding partner
  partner-first f e = rw e

  pub partner-second : (f : ℕ) → f < block_count p → pairs_next p f ≡ true → partner p (suc f) ≡ f
  unfolding partner
  partner-second f l e = rw ((shaped.pair f l).next-free e) (omega arith)

  pub partner-pair : (i : ℕ) → i < block_count p → is_paired p i ≡ true → PairOf p i
  partner-pair i l e = go (is_paired-cases p i e)
    where
      go : (pairs_next p i ≡ true) ⊎ ((f : ℕ) × (i ≡ suc f) × (pairs_next p f ≡ true)) → PairOf p i
      go (inl h) =
          record { head = i; below = (shaped.pair i l).next-below h; marked = h; which = inl (refl, partner-first i h) }
      go (inr h) =
          let f = h.0 in
          let fl : f < block_count p = omega (arith, h.1) in
          let second : partner p i ≡ f = ap (partner p) h.1 ∙ partner-second f fl h.2 in
          record { head = f; below = (shaped.pair f fl).next-below h.2; marked = h.2; which = inr (h.1, second) }

  module _ (i : ℕ) (l : i < block_count p) (e : is_paired p i ≡ true) where
    pair : PairOf p i
    pair = partner-pair i l e

    pub partner-below : partner p i < block_count p
    partner-below = let b = pair.below in elim pair.which [ inl h ↦ omega (arith, h.1) | inr h ↦ omega (arith, h.1) ]

    pub partner-other : partner p i ≡ i → ⊥
    partner-other same = elim pair.which [ inl h ↦ omega (arith, h.0, h.1) | inr h ↦ omega (arith, h.0, h.1) ]

    pub partner-paired : is_paired p (partner p i) ≡ true
    partner-paired = elim pair.which [
      | inl h ↦ rw h.1 (is_paired-second p pair.head pair.marked)
      | inr h ↦ rw h.1 (is_paired-first p pair.head pair.marked)
    ]

    pub partner-partner : partner p (partner p i) ≡ i
    partner-partner =
        let fl : pair.head < block_count p = omega (arith, pair.below) in
        elim pair.which [
          | inl h ↦ ap (partner p) h.1 ∙ partner-second pair.head fl pair.marked ∙ sym h.0
          | inr h ↦ ap (partner p) h.1 ∙ partner-first pair.head pair.marked ∙ sym h.0
        ]

    -- what the two blocks of a pair agree in, partners agree in
    partner-same : {A : Type 0} (f : ℕ → A) → f pair.head ≡ f (suc pair.head) → f (partner p i) ≡ f i
    partner-same f same = elim pair.which [
      | inl h ↦ ap f h.1 ∙ sym same ∙ ap f (sym h.0)
      | inr h ↦ ap f h.1 ∙ same ∙ ap f (sym h.0)
    ]

    first-pair : ValidPair p pair.head
    first-pair = shaped.pair pair.head (omega (arith, pair.below))

    pub partner-popularity : (block_of p (partner p i)).popularity ≡ (block_of p i).popularity
    partner-popularity = partner-same (λ b. (block_of p b).popularity) (first-pair.popularity-same pair.marked)

    pub partner-min_replicas : (block_of p (partner p i)).min_replicas ≡ (block_of p i).min_replicas
    partner-min_replicas = partner-same (λ b. (block_of p b).min_replicas) (first-pair.replicas-same pair.marked)

    pub partner-min_domains : (block_of p (partner p i)).min_domains ≡ (block_of p i).min_domains
    partner-min_domains = partner-same (λ b. (block_of p b).min_domains) (first-pair.domains-same pair.marked)

-- ── max_replicas ──────────────────────────────────────────────────────────────────────────────────
pub max_replicas-early : (version : ℕ) → version < 3 → 8 ≡ max_replicas version
unfolding max_replicas
max_replicas-early version l = rw (lt-ltb version 3 l)

pub max_replicas-later : (version : ℕ) → 3 ≤ version → 10 ≡ max_replicas version
unfolding max_replicas
max_replicas-later version l = rw (le-ltb version 3 l)

-- no version allows fewer than the first, or more than the latest
pub max_replicas-least : (version : ℕ) → 8 ≤ max_replicas version
unfolding max_replicas
max_replicas-least version = cond-all (λ n. 8 ≤ n) (ltb version 3) 8 10 (λ e. omega arith) (omega arith)

pub max_replicas-most : (version : ℕ) → max_replicas version ≤ most_replicas
unfolding max_replicas
max_replicas-most version = cond-all (λ n. n ≤ most_replicas) (ltb version 3) 8 10 (λ e. omega arith) (omega arith)

-- ── upper ────────────────────────────────────────────────────────────────────────────────────────
pub upper-version : (p : Plan) (i : ℕ) → upper p i ≤ max_replicas p.version
unfolding upper
upper-version p i =
    let most = max_replicas p.version in
    cond-all (λ n. n ≤ most) (is_paired p i) (min most (machines p / 2)) (min most (machines p)) (λ e. min-le_left _ _) (min-le_left _ _)

pub upper-max : (p : Plan) (i : ℕ) → upper p i ≤ most_replicas
upper-max p i = le_trans (upper-version p i) (max_replicas-most p.version)

pub upper-machines : (p : Plan) (i : ℕ) → upper p i ≤ machines p
unfolding upper
upper-machines p i =
    let most = max_replicas p.version in
    cond-all (λ n. n ≤ machines p) (is_paired p i) (min most (machines p / 2)) (min most (machines p)) (λ e. omega arith) (omega arith)

-- a pair's copies are at most as many as the machines
pub upper-pair : (p : Plan) (i : ℕ) → is_paired p i ≡ true → upper p i + upper p i ≤ machines p
unfolding upper
upper-pair p i e = rw e (let half = min-le_right (max_replicas p.version) (machines p / 2) in omega arith)

-- in a version that allows as many copies on the plan's machines it is the same
pub upper-alike : (p : Plan) (version : ℕ) → min (max_replicas version) (machines p) ≡ min (max_replicas p.version) (machines p)
    → (i : ℕ) → upper (with_version version p) i ≡ upper p i
unfolding upper is_paired pairs_back pairs_next
upper-alike p version same i =
    ap₂ (λ (half whole : ℕ). cond (is_paired p i) half whole)
    (omega (arith, same))
    same

-- in a version that allows no fewer it is no smaller
pub upper-grows : (p : Plan) (version : ℕ) → max_replicas p.version ≤ max_replicas version
    → (i : ℕ) → upper p i ≤ upper (with_version version p) i
unfolding upper is_paired pairs_back pairs_next
upper-grows p version more i = go (is_paired p i)
  where
    go : (paired : Bool)
        → cond paired (min (max_replicas p.version) (machines p / 2)) (min (max_replicas p.version) (machines p))
        ≤ cond paired (min (max_replicas version) (machines p / 2)) (min (max_replicas version) (machines p))
    go true = omega (arith, more)
    go false = omega (arith, more)

-- it goes by whether the block is paired
pub upper-same : (p : Plan) (i j : ℕ) → is_paired p i ≡ is_paired p j → upper p i ≡ upper p j
unfolding upper
upper-same p i j e = rw e

-- ── field ────────────────────────────────────────────────────────────────────────────────────────
pub field_bound : (bytes : List ℕ) → ((i : ℕ) → get_or bytes i 0 < 256) → (at width : ℕ) → field bytes at width < 256 ^ width
unfolding field
field_bound bytes h at zero = omega arith
field_bound bytes h at (suc width) =
    let before = field_bound bytes h at width in
    let p = pow-suc 256 width in
    omega (arith, h (at + width))

-- a number of fewer bytes is below the bound of more
pub field-narrow : (value width widest : ℕ) → value < 256 ^ width → width ≤ widest → value < 256 ^ widest
field-narrow value width widest l fits = let wide = pow-le-pow_right {n = 256} (lit< tt) fits in omega arith

-- a field of the first n bytes
pub field-take : (n : ℕ) (bytes : List ℕ) (at width : ℕ) → at + width ≤ n → field (take n bytes) at width ≡ field bytes at width
unfolding field
field-take n bytes at zero l = refl
field-take n bytes at (suc width) l =
    ap₂ (λ (x y : ℕ). x * 256 + y) (field-take n bytes at width (omega arith)) (get_or-take n bytes (at + width) 0 (omega arith))

-- ── format_of ─────────────────────────────────────────────────────────────────────────────────────
-- no version's popularity is wider than the widest
pub format_of-popularity : (version : ℕ) → (format_of version).popularity_width ≤ widest_popularity
unfolding format_of
format_of-popularity version = cond-all (λ n. n ≤ widest_popularity) (ltb version 3) 3 4 (λ e. omega arith) (omega arith)

-- the byte F is there or not
pub format_of-feeds : (version : ℕ) → (format_of version).feeds_width ≤ 1
unfolding format_of
format_of-feeds version = cond-all (λ n. n ≤ 1) (ltb version 4) 0 1 (λ e. omega arith) (omega arith)

-- no version's plan of as many blocks is longer than the latest one's
pub format_of-longest : (version count most : ℕ) → count ≤ most → record_at (format_of version) count ≤ record_at (format_of latest_version) most
unfolding format_of
format_of-longest version count most l =
    go (cond (ltb version 4) 0 1) (cond (ltb version 3) 3 4) (cond (ltb version 2) 0 1)
    (format_of-feeds version)
    (cond-all (λ n. n ≤ 4) (ltb version 3) 3 4 (λ e. omega arith) (omega arith))
    (cond-all (λ n. n ≤ 1) (ltb version 2) 0 1 (λ e. omega arith) (omega arith))
  where
    go : (feeds popularity pair : ℕ) → feeds ≤ 1 → popularity ≤ 4 → pair ≤ 1
        → 15 + feeds + (popularity + 1 + 1 + pair) * count ≤ 16 + (4 + 1 + 1 + 1) * most
    go feeds popularity pair fed wide paired =
        let product : (popularity + 1 + 1 + pair) * count ≤ 7 * most = mul-le-mul (omega arith) l in
        omega arith

-- ── plan_in ───────────────────────────────────────────────────────────────────────────────────────
pub plan_in-block_count : (bytes : List ℕ) → block_count (plan_in bytes) ≡ block_count_in bytes
unfolding plan_in
plan_in-block_count bytes = length-table (block_count_in bytes) (block_in (format_in bytes) bytes)

pub plan_in-block_of : (bytes : List ℕ) (i : ℕ) → i < block_count_in bytes → block_of (plan_in bytes) i ≡ block_in (format_in bytes) bytes i
unfolding plan_in
plan_in-block_of bytes i l = get_d-table (block_count_in bytes) (block_in (format_in bytes) bytes) i no_block l
