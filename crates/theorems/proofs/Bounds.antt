-- The bound of a settled placement: with every spread one, and with larger spreads where no machine is full.
-- Assumes nothing.
use mathlib.Core.Path.{◌≡◌, ap₂, sym, ◌∙◌}
use mathlib.Core.Bool.{true}
use mathlib.Core.List.{List}
use Prim.Native.Nat.{ℕ, suc, ◌+◌, ◌*◌, ◌-◌, ◌≤◌, ◌<◌}
use native.Mathlib.Nat.{le_trans, lt_of_mul-lt-mul_left, mul_assoc, mul_comm, mul_left_comm}
use native.Mathlib.Decide.{dec_le}
use native.Mathlib.Omega.{arith}
use Rattle.order.specs.Sum.{sum}
use Rattle.order.proofs.Arithmetic.{factors-pos}
use Rattle.order.proofs.Sums.{sum-cong, sum-none, sum_mono, sum-strict, sum-index}
use Rattle.order.proofs.Extremes.{largest-term, largest-near, sum-largest}
use Rattle.model.specs.Plan.{Plan, machines, domain, domains, domain_size, block_count, block_of, pairs_next, is_paired, partner}
use Rattle.model.specs.Replication.{share}
use Rattle.model.specs.Placement.{word_of, held, replicas_in, domains_used, used, Feasible, share_of, load, max_load_of, total_load_of, max_share}
use Rattle.model.specs.Steps.{shifted}
use Rattle.theory.specs.Refusal.{Shaped, Valid}
use Rattle.theory.specs.Replication.{EvenPairs}
use Rattle.theory.proofs.Placement.{bit_le, replicas_in-members, share_of-feasible, load-domain}
use Rattle.theory.proofs.Plan.{is_paired-first, partner-first, domain-lt, domain_size-pos, member, member-lt, member-domain}
use Rattle.theory.proofs.Steps.{domains_used-shift-inside, domains_used-shift-pos, domains_used-shift-across}
use Rattle.theorems.specs.Bounds.{Settled, OneSpread, LargerSpreads}
use Rattle.theorems.proofs.TotalLoad.{loads-total}
use Rattle.theorems.proofs.TwoMachines.{two-machines}
use Rattle.theorems.proofs.Items.{item, item-sum, item-cong, item-weight, item-exchange, Within, item-more, within-below, within_same, within-clear, item-bit}

-- every block on m and not on n keeps its spread when its copy is shifted from m to n
abbrev Shiftable : Plan → List ℕ → ℕ → ℕ → Type 0
Shiftable p words m n =
    (i : ℕ) → i < block_count p → held words m i ≡ 1 → held words n i ≡ 0
    → (block_of p i).min_domains ≤ domains_used p (shifted (word_of words i) m n)

-- loads within c of one another bound the largest by that of any placement of the same total
bounded : (p : Plan) (words other : List ℕ) (c : ℕ) → total_load_of p words ≡ total_load_of p other
    → ((m n : ℕ) → m < machines p → n < machines p → load p words m ≤ load p words n + c)
    → machines p * max_load_of p words ≤ machines p * max_load_of p other + (machines p - 1) * c
unfolding total_load_of max_load_of
bounded p words other c total near =
    omega (arith, largest-near (machines p) (load p words) c near, sum-largest (machines p) (load p other))

module _ (p : Plan) (shaped : Shaped p) (words : List ℕ) (count : ℕ → ℕ) (slack : ℕ) (feasible : Feasible p count words)
    (even : EvenPairs p count) (settled : Settled p words slack) where
  -- the two blocks of a pair have equal shares
  even-share : (g : ℕ) → g < block_count p → pairs_next p g ≡ true → share_of p words (suc g) ≡ share_of p words g
  even-share g l marked =
      let pair = shaped.pair g l in
      let below = pair.next-below marked in
      let counts : count (suc g) ≡ count g = rw (partner-first p shaped g marked) at (even g l (is_paired-first p g marked)) in
      sym (share_of-feasible p count words feasible (suc g) below)
      ∙ ap₂ share (sym (pair.popularity-same marked)) counts
      ∙ share_of-feasible p count words feasible g l

  -- copies and loads, counted over items
  item-used : (m : ℕ) → sum (block_count p) (item p (held words m)) ≡ used p words m
  unfolding used
  item-used m = item-sum p shaped (held words m)

  item-load : (m : ℕ) → sum (block_count p) (λ g. item p (held words m) g * share_of p words g) ≡ load p words m
  unfolding load
  item-load m = item-weight p shaped (held words m) (share_of p words) even-share

  share-le : (i : ℕ) → i < block_count p → share_of p words i ≤ max_share p words
  unfolding max_share
  share-le = largest-term (block_count p) (share_of p words)

  -- A block of an item that m holds and n does not: m holds the block, n neither the block nor its partner.
  record Lone (m n g : ℕ) : Type 0 where
    block : ℕ
    below : block < block_count p
    share : share_of p words block ≡ share_of p words g
    on : held words m block ≡ 1
    off : held words n block ≡ 0
    free : is_paired p block ≡ true → held words n (partner p block) ≡ 0

  lone : (m n g : ℕ) → g < block_count p → item p (held words m) g ≡ 1 → item p (held words n) g ≡ 0 → Lone m n g
  lone m n g l on off =
      let found = item-more p (held words n) (held words m) g (omega arith) in
      let i = found.0 in
      let clear = within-clear p shaped g i l (held words n) off found.1 in
      record {
        block = i;
        below = within-below p shaped g i l found.1;
        share = within_same p shaped g i l (share_of p words) even-share found.1;
        on = omega (arith, found.2, bit_le (word_of words i) m);
        off = clear.0;
        free = clear.1;
      }

  -- two machines between which every block can be shifted
  near : (m n : ℕ) → m < machines p → n < machines p → Shiftable p words m n → Shiftable p words n m
      → load p words m ≤ load p words n + (max_share p words + slack)
  near m n m-lt n-lt there back =
      omega (
        arith,
        item-load m,
        item-load n,
        two-machines (block_count p) (share_of p words) (item p (held words m)) (item p (held words n)) p.capacity (max_share p words) slack
            (item-bit p shaped count words feasible m m-lt)
            (item-bit p shaped count words feasible n n-lt)
            share-le
            (rw (item-used m) (feasible.fits m m-lt))
            (rw (item-used n) (feasible.fits n n-lt))
            no_move
            no-swap,
      )
    where
      no_move : sum (block_count p) (item p (held words n)) < p.capacity → (g : ℕ) → g < block_count p
          → item p (held words m) g ≡ 1 → item p (held words n) g ≡ 0 → 0 < share_of p words g
          → sum (block_count p) (λ g. item p (held words m) g * share_of p words g)
          ≤ sum (block_count p) (λ g. item p (held words n) g * share_of p words g) + share_of p words g + slack
      no_move room g l on off pos =
          let own = lone m n g l on off in
          let i = own.block in
          rw (item-load m, item-load n, ← own.share)
          (settled.no_move m n i m-lt n-lt own.below own.on own.off (rw (item-used n) at room) (rw own.share pos)
          (there i own.below own.on own.off) own.free)

      no-swap : (g h : ℕ) → g < block_count p → h < block_count p → item p (held words m) g ≡ 1 → item p (held words n) g ≡ 0
          → item p (held words n) h ≡ 1 → item p (held words m) h ≡ 0 → share_of p words h < share_of p words g
          → sum (block_count p) (λ g. item p (held words m) g * share_of p words g) + share_of p words h
          ≤ sum (block_count p) (λ g. item p (held words n) g * share_of p words g) + share_of p words g + slack
      no-swap g h l k on off on' off' less =
          let own = lone m n g l on off in
          let other = lone n m h k on' off' in
          rw (item-load m, item-load n, ← own.share, ← other.share)
          (settled.no-swap m n own.block other.block m-lt n-lt own.below other.below own.on own.off other.on other.off
          (rw (own.share, other.share) less) (there own.block own.below own.on own.off)
          (back other.block other.below other.on other.off) (λ paired apart. own.free paired) (λ paired apart. other.free paired))

  -- two machines of one domain: shifting inside it changes no spread
  near-inside : (m n : ℕ) → m < machines p → n < machines p → domain p m ≡ domain p n
      → load p words m ≤ load p words n + (max_share p words + slack)
  near-inside m n m-lt n-lt same = near m n m-lt n-lt (inside m n m-lt n-lt same) (inside n m n-lt m-lt (sym same))
    where
      inside : (m n : ℕ) → m < machines p → n < machines p → domain p m ≡ domain p n → Shiftable p words m n
      inside m n m-lt n-lt same i l on off =
          omega (arith, feasible.spread i l, domains_used-shift-inside p (word_of words i) m n m-lt n-lt on off same)

  module _ (room : (m : ℕ) → m < machines p → used p words m < p.capacity) where
    -- a block's copies in a domain, and the domain's load over items
    abbrev copies : ℕ → ℕ → ℕ
    copies d i = replicas_in p (word_of words i) d

    domain-load : (d : ℕ) → d < domains p
        → sum (domain_size p) (λ x. load p words (member p d x)) ≡ sum (block_count p) (λ g. share_of p words g * item p (copies d) g)
    domain-load d l =
        load-domain p shaped words d l
        ∙ sum-cong (block_count p) _ _ (λ i h. mul_comm (share_of p words i) (copies d i))
        ∙ sym (item-weight p shaped (copies d) (share_of p words) even-share)
        ∙ sum-cong (block_count p) _ _ (λ g h. mul_comm (item p (copies d) g) (share_of p words g))

    domain-item : (d : ℕ) → d < domains p → (g : ℕ)
        → item p (copies d) g ≡ sum (domain_size p) (λ x. item p (held words (member p d x)) g)
    domain-item d l g =
        item-cong p (copies d) (λ i. sum (domain_size p) (λ x. held words (member p d x) i)) (λ i. replicas_in-members p shaped (word_of words i) d l) g
        ∙ item-exchange p shaped (domain_size p) (λ x. held words (member p d x)) g

    -- of two domains, not every machine of one exceeds every machine of the other by more than a share and the slack: a block with
    -- more copies in the first could be moved to the second
    domains-near : (r t : ℕ) → r < domains p → t < domains p
        → ((x y : ℕ) → x < domain_size p → y < domain_size p
        → load p words (member p t y) + (max_share p words + slack) < load p words (member p r x))
        → ⊥
    domains-near r t r-lt t-lt above =
        let sums = sum-strict (domain_size p) (λ x. load p words (member p t x)) (λ x. load p words (member p r x)) (domain_size-pos p shaped)
        (λ x l. omega (arith, above x x l l))
        in
        let more = sum-index (block_count p) (λ g. share_of p words g * item p (copies t) g) (λ g. share_of p words g * item p (copies r) g)
        (rw (domain-load t t-lt, domain-load r r-lt) at sums)
        in
        uneven more.0 more.1 more.2
      where
        -- a machine of r that holds the block, and one of t that has nothing of its item
        holder : (i : ℕ) → 0 < copies r i → (x : ℕ) × (x < domain_size p) × (0 < held words (member p r x) i)
        holder i some =
            sum-index (domain_size p) (λ x. 0) (λ x. held words (member p r x) i)
            (rw (sum-none (domain_size p), ← replicas_in-members p shaped (word_of words i) r r-lt) some)

        empty : (g : ℕ) → g < block_count p → item p (copies t) g < item p (copies r) g
            → (y : ℕ) × (y < domain_size p) × (item p (held words (member p t y)) g < 1)
        empty g l fewer =
            let most = sum_mono (domain_size p) (λ x. item p (held words (member p r x)) g) (λ x. 1)
            (λ x h. item-bit p shaped count words feasible (member p r x) (member-lt p shaped r x r-lt h) g l)
            in
            sum-index (domain_size p) (λ y. item p (held words (member p t y)) g) (λ y. 1)
            (omega (arith, most, fewer, domain-item t t-lt g, domain-item r r-lt g))

        found : (g i : ℕ) → g < block_count p → Within p g i → 0 < share_of p words g → copies t i < copies r i
            → (x : ℕ) × (x < domain_size p) × (0 < held words (member p r x) i)
            → (y : ℕ) × (y < domain_size p) × (item p (held words (member p t y)) g < 1) → ⊥
        found g i l within pos fewer (x, x_lt, some) (y, y-lt, none) =
            let a = member p r x in
            let b = member p t y in
            let a_lt = member-lt p shaped r x r-lt x_lt in
            let b_lt = member-lt p shaped t y t-lt y-lt in
            let below = within-below p shaped g i l within in
            let share = within_same p shaped g i l (share_of p words) even-share within in
            let clear = within-clear p shaped g i l (held words b) (omega arith) within in
            let on : held words a i ≡ 1 = omega (arith, bit_le (word_of words i) a) in
            let kept = domains_used-shift-across p (word_of words i) a b a_lt b_lt on clear.0 shaped
            (rw (member-domain p shaped t y t-lt, member-domain p shaped r x r-lt) fewer)
            in
            let settle = settled.no_move a b i a_lt b_lt below on clear.0 (room b b_lt) (rw share pos)
            (le_trans (feasible.spread i below) kept) clear.1
            in
            omega (arith, above x y x_lt y-lt, share-le i below)

        uneven : (g : ℕ) → g < block_count p → share_of p words g * item p (copies t) g < share_of p words g * item p (copies r) g → ⊥
        uneven g l less =
            let fewer = lt_of_mul-lt-mul_left (share_of p words g) less in
            let pos = (factors-pos (share_of p words g) (item p (copies r) g) (omega arith)).0 in
            let block = item-more p (copies t) (copies r) g fewer in
            found g block.0 l block.1 pos block.2 (holder block.0 (omega (arith, block.2))) (empty g l fewer)

    -- any two machines: each is near its domain's others, and the two domains have machines that are near
    near-across : (m n : ℕ) → m < machines p → n < machines p → load p words m ≤ load p words n + 3 * (max_share p words + slack)
    near-across m n m-lt n-lt = go (dec_le (load p words m) (load p words n + 3 * (max_share p words + slack)))
      where
        far : load p words n + 3 * (max_share p words + slack) < load p words m → (x y : ℕ) → x < domain_size p → y < domain_size p
            → load p words (member p (domain p n) y) + (max_share p words + slack) < load p words (member p (domain p m) x)
        far more x y l h =
            let r-lt = domain-lt p shaped m in
            let t-lt = domain-lt p shaped n in
            omega (
              arith,
              near-inside m (member p (domain p m) x) m-lt (member-lt p shaped (domain p m) x r-lt l) (sym (member-domain p shaped (domain p m) x r-lt)),
              near-inside (member p (domain p n) y) n (member-lt p shaped (domain p n) y t-lt h) n-lt (member-domain p shaped (domain p n) y t-lt),
            )

        go : Dec (load p words m ≤ load p words n + 3 * (max_share p words + slack))
            → load p words m ≤ load p words n + 3 * (max_share p words + slack)
        go (yes le) = le
        go (no more) =
            absurd
            (domains-near (domain p m) (domain p n) (domain-lt p shaped m) (domain-lt p shaped n) (far (omega arith)))

-- the total load is that of every lawful placement
totals : (p : Plan) → Valid p → (words other : List ℕ) (count count' : ℕ → ℕ) → Feasible p count words → Feasible p count' other
    → total_load_of p words ≡ total_load_of p other
totals p valid words other count count' f f' = loads-total p valid count words f ∙ sym (loads-total p valid count' other f')

-- Where every spread is one, a copy may be shifted between any two machines, as it lies in a domain wherever it is. A pair counts as one
-- item, so an item that only one of two machines holds meets no partner on the other. So no load is more than a share (and the slack)
-- above another. Let X be the largest load. Each of the M - 1 other loads is at least X less a share,
-- so M × X is at most the total and M - 1 shares; and the total, the same for every lawful placement, is at most M times the largest
-- load of the other.
pub one-spread : OneSpread
one-spread p words other count count' slack valid feasible even settled feasible' one =
    bounded p words other (max_share p words + slack) (totals p valid words other count count' feasible feasible')
    (λ m n m-lt n-lt. near p valid.shaped words count slack feasible even settled m n m-lt n-lt (free m n m-lt n-lt) (free n m n-lt m-lt))
  where
    free : (m n : ℕ) → m < machines p → n < machines p → Shiftable p words m n
    free m n m-lt n-lt i l on off =
        omega (arith, one i l, domains_used-shift-pos p (word_of words i) m n m-lt n-lt on off valid.shaped)

-- With larger spreads a copy may be shifted inside its domain, which changes no spread: so inside a domain no load is more than a
-- share above another. Let m lie in domain r and n in domain t, and say that the load of m is more than three shares above that of
-- n. Every machine of r is within a share of m and every machine of t within a share of n, so each machine of r is more than a share
-- above each of t. Domains are of one size, so r has more load than t in all, and some item with a positive share has more copies
-- in r than in t: fewer in t than t has machines, so some machine of t has nothing of it, and of one of its blocks r has more copies
-- than t, so some machine of r holds that block. Shifting that copy loses no domain: if r has two copies or more it keeps one, and
-- if it has one then t had none and replaces r. It meets no partner, and no machine is full, so this is a step that lowers, and the
-- placement was not settled. So no load is more than three shares above another, and the rest is as with spread one.
pub larger-spreads : LargerSpreads
larger-spreads p words other count count' slack valid feasible even settled feasible' room =
    let share = max_share p words + slack in
    let product : (machines p - 1) * (3 * share) ≡ 3 * (machines p - 1) * share =
    mul_left_comm (machines p - 1) 3 share ∙ sym (mul_assoc 3 (machines p - 1) share)
    in
    rw product at
    (bounded p words other (3 * share) (totals p valid words other count count' feasible feasible')
    (near-across p valid.shaped words count slack feasible even settled room))
