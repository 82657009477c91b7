-- Document 01, "Counts and shares": a share is exact and falls as the count grows; the chosen counts are lawful, their largest
-- share is the least that lawful counts reach, and each is the smallest lawful count within it.
-- Assumes nothing.
use mathlib.Core.Path.{◌≡◌, refl, ap, sym, ◌∙◌}
use mathlib.Core.Logic.{◌↔◌, inl, inr}
use mathlib.Core.Bool.{Bool, true, false}
use Prim.Native.Nat.{ℕ, suc, ◌+◌, ◌*◌, ◌-◌, ◌/◌, ◌%◌, ◌≤◌, ◌<◌, ◌∣◌}
use native.Mathlib.Nat.{mul_comm, zero-div, div-one, le_of_mul-le-mul_right, mul-le-mul_left, mul-le-mul_right, div-le_self, dvd_of_mod-eq-zero, dvd-mul_left_of_dvd, pos_of_dvd_of_pos, div-mul_cancel, mul-div_assoc, le-add_right, le_of_eq, lt_of_not-le, le-min, min-le_right, mul-le-mul, le_antisymm, le_trans, le_refl, eq-or-lt_of_le}
use native.Mathlib.Decide.{dec_lt, dec_le}
use native.Mathlib.Omega.{arith}
use borrow.Author.Tests.{eqb-true, leb-true, le-leb}
use lib.Dec.{eqb, leb}
use Rattle.order.specs.Sum.{sum}
use Rattle.order.specs.Search.{allb}
use Rattle.order.proofs.Arithmetic.{div-antitone}
use Rattle.order.proofs.Booleans.{no-contradiction, not_so, and-iff, leb-iff}
use Rattle.order.proofs.Sums.{sum-cong, sum_mono, sum-mul, sum_same}
use Rattle.order.proofs.Extremes.{least-le, least-passes, least_first, allb-at, allb-iff, largest-term, largest-le}
use Rattle.model.specs.Plan.{Plan, block_count, block_of, partner, upper, min_total}
use Rattle.model.specs.Refusal.{max_machines, max_capacity}
use Rattle.model.specs.Replication.{copy_limit, FeasibleCounts, unit, share, largest_share, need, reachable, figure, chosen}
use Rattle.theory.specs.Widths.{most_replicas, popularity_bound, share_bound}
use Rattle.theory.specs.Units.{DividedBy, share_by}
use Rattle.theory.specs.Refusal.{ValidBlock, Shaped, Valid}
use Rattle.theory.specs.Replication.{UnitDivides, ShareLaws, EvenPairs, ChosenCounts, ChosenUnique}
use Rattle.theory.proofs.Plan.{partner-paired, partner-popularity, partner-min_replicas, upper-max, upper-same}

-- ── limit ────────────────────────────────────────────────────────────────────────────────────────
pub copy_limit-max : (p : Plan) → Shaped p → copy_limit p ≤ max_machines * max_capacity
unfolding copy_limit
copy_limit-max p s = le_trans (min-le_right _ _) (mul-le-mul s.machines-max s.capacity-max)

-- ── FeasibleCounts ───────────────────────────────────────────────────────────────────────────────
-- lawful counts are from 1 to the most copies
pub feasible_counts-range : (p : Plan) (count : ℕ → ℕ) → Shaped p → FeasibleCounts p count → (i : ℕ) → i < block_count p
    → (1 ≤ count i) × (count i ≤ most_replicas)
feasible_counts-range p count s c i l =
    (le_trans (s.block i l).min-pos (c.at_least i l), le_trans (c.at_most i l) (upper-max p i))

-- so are counts that agree with them on the blocks
pub feasible_counts-same : (p : Plan) (count other : ℕ → ℕ) → ((i : ℕ) → i < block_count p → count i ≡ other i)
    → FeasibleCounts p count → FeasibleCounts p other
feasible_counts-same p count other same c =
    record {
      at_least = λ i l. rw (same i l) at (c.at_least i l);
      at_most = λ i l. rw (same i l) at (c.at_most i l);
      in-limit = rw (sum-cong (block_count p) count other same) at c.in-limit;
    }

-- the least copies of an accepted plan are lawful counts
pub feasible_counts-least : (p : Plan) → Shaped p → min_total p ≤ copy_limit p → FeasibleCounts p (λ i. (block_of p i).min_replicas)
unfolding min_total
feasible_counts-least p shaped within =
    record { at_least = λ i l. le_refl _; at_most = λ i l. (shaped.block i l).min-upper; in-limit = within }

-- an accepted plan's are
pub copy_limit-valid : (p : Plan) → Valid p → min_total p ≤ copy_limit p
unfolding copy_limit
copy_limit-valid p v = le-min v.in-budget v.in-places

pub feasible_counts-valid : (p : Plan) → Valid p → FeasibleCounts p (λ i. (block_of p i).min_replicas)
feasible_counts-valid p v = feasible_counts-least p v.shaped (copy_limit-valid p v)

-- ── share ────────────────────────────────────────────────────────────────────────────────────────
-- whether all numbers from 1 on divide the units
unfoldable pub all_divide : ℕ → ℕ → Bool
all_divide most units = allb most (λ j. eqb (units % suc j) 0)

pub all_divide-at : (most units : ℕ) → all_divide most units ≡ true → DividedBy most units
unfolding all_divide
all_divide-at most units every k pos max =
    let back : suc (k - 1) ≡ k = omega arith in
    rw back at (dvd_of_mod-eq-zero (suc (k - 1)) (eqb-true _ _ (allb-at most _ every (k - 1) (omega arith))))

-- those up to the most copies do, by computing the test
pub unit-divides : UnitDivides
unfolding all_divide allb
unit-divides = all_divide-at _ _ refl

-- what holds with any units
module _ (units : ℕ) where
  -- at a count that divides them a share is whole
  pub share_by-exact : (P k : ℕ) → k ∣ units → share_by units P k * k ≡ P * units
  unfolding share_by
  share_by-exact P k d = div-mul_cancel k (dvd-mul_left_of_dvd k d P)

  module _ (pos : 1 ≤ units) where
    -- it is within f exactly if f times the count covers the popularity
    pub share_by-within : (P k f : ℕ) → k ∣ units → (share_by units P k ≤ f) ↔ (P * units ≤ f * k)
    share_by-within P k f d =
        rw (← share_by-exact P k d) (λ l. mul-le-mul_right k l, λ l. le_of_mul-le-mul_right l (pos_of_dvd_of_pos d pos))

    -- two shares compare as the popularities do, each times the other's count
    pub share_by-compares : (P j Q k : ℕ) → j ∣ units → k ∣ units → (share_by units P j ≤ share_by units Q k) ↔ (P * k ≤ Q * j)
    share_by-compares P j Q k dj dk = (
      λ l.
          let whole : share_by units P j * j * k ≤ share_by units Q k * j * k = mul-le-mul_right k (mul-le-mul_right j l) in
          let scaled : P * k * units ≤ Q * j * units = omega (arith, whole-k, whole-j) in
          le_of_mul-le-mul_right scaled pos,
      λ l.
          let scaled : P * k * units ≤ Q * j * units = mul-le-mul_right units l in
          let covered : P * units * k ≤ share_by units Q k * j * k = omega (arith, whole-k) in
          (share_by-within P j (share_by units Q k) dj).1 (le_of_mul-le-mul_right covered (pos_of_dvd_of_pos dk pos)),
    )
      where
        whole-j : share_by units P j * j * k ≡ P * units * k
        whole-j = ap (λ (x : ℕ). x * k) (share_by-exact P j dj)

        whole-k : share_by units Q k * k * j ≡ Q * units * j
        whole-k = ap (λ (x : ℕ). x * j) (share_by-exact Q k dk)

-- at a count that divides the unit a share is whole,
pub share-exact : (P k : ℕ) → k ∣ unit → share P k * k ≡ P * unit
unfolding share share_by
share-exact = share_by-exact unit

-- and it is the popularity times the quotient
pub share-quotient : (P k : ℕ) → k ∣ unit → P * (unit / k) ≡ share P k
unfolding share
share-quotient P k d = sym (mul-div_assoc k P d)

-- a share is within f exactly if f times the count covers the popularity
pub share-within : (P k f : ℕ) → k ∣ unit → (share P k ≤ f) ↔ (P * unit ≤ f * k)
unfolding share share_by
share-within = share_by-within unit (omega arith)

-- two shares compare as the popularities do, each times the other's count
pub share-compares : (P j Q k : ℕ) → j ∣ unit → k ∣ unit → (share P j ≤ share Q k) ↔ (P * k ≤ Q * j)
unfolding share share_by
share-compares = share_by-compares unit (omega arith)

pub share-falls : (P j k : ℕ) → 1 ≤ j → j ≤ k → share P k ≤ share P j
unfolding share
share-falls P j k = div-antitone (P * unit) j k

-- strictly, where it is not 0 and both counts divide the unit
pub share-strict : (P j k : ℕ) → j ∣ unit → k ∣ unit → j < k → 0 < share P k → share P k < share P j
share-strict P j k dj dk more pos =
    lt_of_not-le
    (λ l.
    let fewer : share P j * j ≤ share P k * j = mul-le-mul_right j l in
    let less : share P k * suc j ≤ share P k * k = mul-le-mul_left (share P k) more in
    omega (arith, share-exact P j dj, share-exact P k dk))

-- a share is at most the whole popularity, and so within its bound
pub share-whole : (P k : ℕ) → share P k ≤ P * unit
unfolding share
share-whole P k = div-le_self (P * unit) k

pub share-bound : (P k : ℕ) → P < popularity_bound → share P k < share_bound
share-bound P k l = let whole = share-whole P k in omega arith

pub share-none : (k : ℕ) → share 0 k ≡ 0
unfolding share
share-none k = zero-div k

-- a single copy has the whole popularity
pub share-one : (P : ℕ) → share P 1 ≡ P * unit
unfolding share
share-one P = div-one (P * unit)

pub share_laws : ShareLaws
share_laws =
    record {
      exact = share-exact;
      divides = unit-divides;
      falls = share-falls;
      conserved = λ p count v c.
          sum-cong (block_count p) _ (λ i. unit * (block_of p i).popularity)
          (λ i l.
          let range = feasible_counts-range p count v.shaped c i l in
          mul_comm _ _ ∙ share-exact _ _ (unit-divides _ range.0 range.1) ∙ mul_comm _ _)
          ∙ sum-mul (block_count p) unit (λ i. (block_of p i).popularity);
    }

-- ── largest_share ─────────────────────────────────────────────────────────────────────────────────
pub largest_share-term : (p : Plan) (count : ℕ → ℕ) (i : ℕ) → i < block_count p
    → share (block_of p i).popularity (count i) ≤ largest_share p count
unfolding largest_share
largest_share-term p count i l = largest-term (block_count p) (λ i. share (block_of p i).popularity (count i)) i l

-- ── need ─────────────────────────────────────────────────────────────────────────────────────────
-- whether so many copies more than the least keep the share within f, and how many there may be
abbrev enough : Plan → ℕ → ℕ → ℕ → Bool
enough p f i more = leb (share (block_of p i).popularity ((block_of p i).min_replicas + more)) f

abbrev room : Plan → ℕ → ℕ
room p i = suc (upper p i) - (block_of p i).min_replicas

module _ (p : Plan) (i : ℕ) (b : ValidBlock p i) (f : ℕ) where
  pub need-min : (block_of p i).min_replicas ≤ need p f i
  unfolding need
  need-min = le-add_right _ _

  pub need-within : need p f i ≤ upper p i → share (block_of p i).popularity (need p f i) ≤ f
  unfolding need
  need-within l = leb-true _ _ (least-passes (enough p f i) (room p i) (omega arith))

  -- it is the first lawful count within f
  pub need-first : (k : ℕ) → (block_of p i).min_replicas ≤ k → k ≤ upper p i → share (block_of p i).popularity k ≤ f
      → need p f i ≤ k
  unfolding need
  need-first k low high l =
      let e : (block_of p i).min_replicas + (k - (block_of p i).min_replicas) ≡ k = omega arith in
      let here : enough p f i (k - (block_of p i).min_replicas) ≡ true = rw e (le-leb _ _ l) in
      let h = least_first (enough p f i) (room p i) (k - (block_of p i).min_replicas) (omega arith) here in
      omega arith

  -- the least copies, where they keep the share within f
  pub need-enough : share (block_of p i).popularity (block_of p i).min_replicas ≤ f → need p f i ≡ (block_of p i).min_replicas
  need-enough l = le_antisymm (need-first (block_of p i).min_replicas (le_refl _) b.min-upper l) need-min

  -- a count within f, where one copy less would be above it
  pub need-is : (k : ℕ) → (block_of p i).min_replicas ≤ k → k ≤ upper p i → share (block_of p i).popularity k ≤ f
      → ((block_of p i).min_replicas < k → f < share (block_of p i).popularity (k - 1))
      → need p f i ≡ k
  need-is k low high l less =
      let first = need-first k low high l in
      let min = need-min in
      elim (dec_lt (need p f i) k) [
        | yes m ↦ absurd
            (omega
            (arith, less (omega arith), need-within (omega arith), share-falls (block_of p i).popularity (need p f i) (k - 1) (omega (arith, b.min-pos)) (omega arith)))
        | no m ↦ omega arith
      ]

module _ (p : Plan) (i : ℕ) (b : ValidBlock p i) (f g : ℕ) (l : f ≤ g) (reaches : need p f i ≤ upper p i) where
  -- a larger figure needs no more copies
  pub need-falls : need p g i ≤ need p f i
  need-falls = need-first p i b g (need p f i) (need-min p i b f) reaches (le_trans (need-within p i b f reaches) l)

  -- and as many where one copy less is above it, too
  pub need-same : ((block_of p i).min_replicas < need p f i → g < share (block_of p i).popularity (need p f i - 1))
      → need p g i ≡ need p f i
  need-same = need-is p i b g (need p f i) (need-min p i b f) reaches (le_trans (need-within p i b f reaches) l)

module _ (p : Plan) (i : ℕ) (b : ValidBlock p i) (f : ℕ) (reaches : need p f i ≤ upper p i) (more : (block_of p i).min_replicas < need p f i) where
  -- one copy less than the need is above the figure,
  pub need-less-above : f < share (block_of p i).popularity (need p f i - 1)
  need-less-above =
      lt_of_not-le (λ l. let first = need-first p i b f (need p f i - 1) (omega arith) (omega arith) l in omega arith)

  -- and is the need at its own share
  pub need-less : need p (share (block_of p i).popularity (need p f i - 1)) i ≡ need p f i - 1
  need-less =
      let P = (block_of p i).popularity in
      let k = need p f i - 1 in
      let max = upper-max p i in
      need-is p i b (share P k) k (omega arith) (omega arith) (le_refl _)
      (λ l.
      let least = b.min-pos in
      share-strict P (k - 1) k (unit-divides _ (omega arith) (omega arith)) (unit-divides _ (omega arith) (omega arith)) (omega arith)
      (omega (arith, need-less-above)))

-- it goes by the block's popularity, its least copies and its upper count
need-alike : (p : Plan) (f i j : ℕ) → (block_of p i).popularity ≡ (block_of p j).popularity → (block_of p i).min_replicas ≡ (block_of p j).min_replicas
    → upper p i ≡ upper p j → need p f i ≡ need p f j
unfolding need
need-alike p f i j popular few most = rw (popular, few, most)

-- ── reachable ────────────────────────────────────────────────────────────────────────────────────
-- the two parts of the test
pub reachable-parts : (p : Plan) (f : ℕ)
    → (reachable p f ≡ true)
    ↔ (((i : ℕ) → i < block_count p → need p f i ≤ upper p i) × (sum (block_count p) (need p f) ≤ copy_limit p))
unfolding reachable
reachable-parts p f =
    and-iff _ _ (allb-iff (block_count p) _ _ (λ i. leb-iff (need p f i) (upper p i))) (leb-iff (sum (block_count p) (need p f)) (copy_limit p))

module _ (p : Plan) (v : Valid p) where
  -- the needs at a reachable figure are lawful
  pub reachable-feasible : (f : ℕ) → reachable p f ≡ true → FeasibleCounts p (need p f)
  reachable-feasible f e =
      let parts = (reachable-parts p f).0 e in
      record {
        at_least = λ i l. need-min p i (v.shaped.block i l) f;
        at_most = parts.0;
        in-limit = parts.1;
      }

  pub reachable-within : (f : ℕ) → reachable p f ≡ true → largest_share p (need p f) ≤ f
  unfolding largest_share
  reachable-within f e =
      largest-le (block_count p) _ f (λ i l. need-within p i (v.shaped.block i l) f (((reachable-parts p f).0 e).0 i l))

  -- a figure that some lawful counts keep within is reachable: no need is above their count
  pub reachable-counts : (f : ℕ) (count : ℕ → ℕ) → FeasibleCounts p count → largest_share p count ≤ f → reachable p f ≡ true
  reachable-counts f count c within =
      (reachable-parts p f).1
      (λ i l. le_trans (fewest i l) (c.at_most i l), le_trans (sum_mono _ _ _ fewest) c.in-limit)
    where
      fewest : (i : ℕ) → i < block_count p → need p f i ≤ count i
      fewest i l =
          need-first p i (v.shaped.block i l) f (count i) (c.at_least i l) (c.at_most i l)
          (le_trans (largest_share-term p count i l) within)

  pub reachable-mono : (f g : ℕ) → f ≤ g → reachable p f ≡ true → reachable p g ≡ true
  reachable-mono f g l e =
      reachable-counts g (need p f) (reachable-feasible f e) (le_trans (reachable-within f e) l)

  -- no block is above a reachable figure at its upper count
  pub reachable-upper : (f : ℕ) → reachable p f ≡ true → largest_share p (upper p) ≤ f
  unfolding largest_share
  reachable-upper f e =
      largest-le (block_count p) _ f
      (λ i l.
      let b = v.shaped.block i l in
      let in-upper = ((reachable-parts p f).0 e).0 i l in
      le_trans
      (share-falls (block_of p i).popularity (need p f i) (upper p i) (le_trans b.min-pos (need-min p i b f)) in-upper)
      (need-within p i b f in-upper))

  -- where the needs at f are above the limit, nothing is reachable below f, nor from f on as long as the needs stay
  pub reachable-none : (f end : ℕ) → copy_limit p < sum (block_count p) (need p f)
      → ((g : ℕ) → f ≤ g → g < end → (i : ℕ) → i < block_count p → need p g i ≡ need p f i)
      → (g : ℕ) → g < end → reachable p g ≡ false
  reachable-none f end over same g l =
      not_so (reachable p g)
      (λ e.
      elim (dec_le f g) [
        | yes m ↦ omega (arith, ((reachable-parts p g).0 e).1, sum-cong (block_count p) _ _ (same g m l))
        | no m ↦ omega (arith, ((reachable-parts p f).0 (reachable-mono g f (omega arith) e)).1)
      ])

-- ── figure ───────────────────────────────────────────────────────────────────────────────────────
-- the figure is at most the largest share at the least copies, where the search for it ends
pub figure-bound : (p : Plan) → figure p ≤ largest_share p (λ i. (block_of p i).min_replicas)
unfolding figure
figure-bound p = least-le _ _

module _ (p : Plan) (v : Valid p) where
  pub figure-reachable : reachable p (figure p) ≡ true
  unfolding figure
  figure-reachable =
      elim (eq-or-lt_of_le (figure-bound p)) [
        | inl e ↦ reachable-counts p v (figure p) _ (feasible_counts-valid p v) (le_of_eq (sym e))
        | inr l ↦ least-passes _ _ l
      ]

  pub figure-least : (f : ℕ) → reachable p f ≡ true → figure p ≤ f
  unfolding figure
  figure-least f e =
      elim (dec_lt f (largest_share p (λ i. (block_of p i).min_replicas))) [
        | yes l ↦ least_first _ _ f l e
        | no l ↦ let most = figure-bound p in omega arith
      ]

  -- what a bisection ends with
  pub figure-by-bisection : (lo : ℕ) → reachable p lo ≡ true → ((f : ℕ) → f < lo → reachable p f ≡ false) → figure p ≡ lo
  figure-by-bisection lo e below =
      let most = figure-least lo e in
      elim (dec_lt (figure p) lo) [
        | yes l ↦ no-contradiction (sym figure-reachable ∙ below (figure p) l)
        | no l ↦ omega arith
      ]

  -- so it is reachable, and the number before it is not
  pub figure-at : (f : ℕ) → reachable p (suc f) ≡ true → reachable p f ≡ false → figure p ≡ suc f
  figure-at f here before =
      figure-by-bisection (suc f) here
      (λ g l. not_so (reachable p g) (λ t. no-contradiction (sym (reachable-mono p v g f (omega arith) t) ∙ before)))

  -- no lawful counts have a largest share below the figure
  pub figure-optimal : (count : ℕ → ℕ) → FeasibleCounts p count → figure p ≤ largest_share p count
  figure-optimal count c = figure-least _ (reachable-counts p v _ count c (le_refl _))

  -- needs that use the whole limit are those at the figure: they are at most as many, and these are within the limit
  pub figure-full : (f : ℕ) → reachable p f ≡ true → sum (block_count p) (need p f) ≡ copy_limit p
      → (i : ℕ) → i < block_count p → need p f i ≡ need p (figure p) i
  figure-full f e full =
      sum_same (block_count p) (need p f) (need p (figure p)) fewer
      (le_trans ((reachable-parts p (figure p)).0 figure-reachable).1 (le_of_eq (sym full)))
    where
      fewer : (i : ℕ) → i < block_count p → need p f i ≤ need p (figure p) i
      fewer i l =
          need-falls p i (v.shaped.block i l) (figure p) f (figure-least f e) (((reachable-parts p (figure p)).0 figure-reachable).0 i l)

-- ── chosen ───────────────────────────────────────────────────────────────────────────────────────
-- the two blocks of a pair have the same count
chosen-even : (p : Plan) → Valid p → EvenPairs p (chosen p)
unfolding chosen
chosen-even p v i l paired =
    need-alike p (figure p) (partner p i) i (partner-popularity p v.shaped i l paired)
    (partner-min_replicas p v.shaped i l paired)
    (upper-same p (partner p i) i (partner-paired p v.shaped i l paired ∙ sym paired))

-- The chosen counts are optimal. Let lawful counts keep every share within some figure f. The need of a block at f is the first
-- lawful count whose share is within f, so it is at most the block's count. Then every need is at most the upper count, and the
-- needs sum to no more than the counts do, which is within the limit: f is reachable. So no lawful counts have a largest share
-- below the least reachable figure. That figure is reachable itself, as the least copies of an accepted plan are lawful and the
-- search for it ends at their largest share. So the needs at it are lawful, their largest share is the figure, and each is the
-- smallest count within it.
pub chosen-counts : ChosenCounts
unfolding chosen
chosen-counts p v =
    let feasible = reachable-feasible p v (figure p) (figure-reachable p v) in
    let most = reachable-within p v (figure p) (figure-reachable p v) in
    record {
      feasible = feasible;
      optimal = λ other c. le_trans most (figure-optimal p v other c);
      figure-is = le_antisymm most (figure-optimal p v _ feasible);
      within = λ i l. le_trans (largest_share-term p (chosen p) i l) most;
      smallest-count = λ i k l. need-first p i (v.shaped.block i l) (figure p) k;
      unpopular = λ i l none. need-enough p i (v.shaped.block i l) (figure p) (rw (none, share-none) (omega arith));
      even = chosen-even p v;
    }

-- Other counts with these laws have the same largest share, the figure, and each count is at most the other.
pub chosen-unique : ChosenUnique
chosen-unique p v count c optimal smallest i l =
    let laws = chosen-counts p v in
    let same : largest_share p count ≡ figure p =
    le_antisymm (le_trans (optimal (chosen p) laws.feasible) (le_of_eq laws.figure-is)) (figure-optimal p v count c)
    in
    le_antisymm
    (smallest i (chosen p i) l (laws.feasible.at_least i l) (laws.feasible.at_most i l) (rw same (laws.within i l)))
    (laws.smallest-count i (count i) l (c.at_least i l) (c.at_most i l)
    (rw same at (largest_share-term p count i l)))
