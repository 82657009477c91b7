-- Laws of the checks: what a check that passes says of its numbers, how large a code gets, and what an accepted plan satisfies.
-- The rows are gone through once, for a code that is not one of rows 1 to 9, 17 and 22: then the plan has the shape that these rows
-- test, and rows 23, 10 and 11 give its code.
-- Assumes nothing.
use mathlib.Core.Path.{◌≡◌, refl, ap, sym, ◌∙◌}
use mathlib.Core.Bool.{Bool, true, false, not, ◌&&◌, ◌||◌}
use mathlib.Core.List.{List}
use mathlib.Core.Logic.{◌⊎◌, inl, inr, ⊎_elim}
use Prim.Native.Nat.{ℕ, zero, suc, ◌*◌, ◌%◌, ◌<◌, ◌≤◌}
use native.Mathlib.Nat.{pos_of_ne-zero, le_trans, eq-or-lt_of_le}
use native.Mathlib.Decide.{dec_lt}
use native.Mathlib.Omega.{arith}
use borrow.Author.Tests.{ltb-false, lt-ltb, le-ltb, lt-leb, le-leb, eqb-true, eqb-false, eq-eqb, ne_eqb, not-false}
use lib.Dec.{leb, ltb, eqb, lit≤}
use lib.ListN.{length}
use Rattle.order.proofs.Booleans.{no-contradiction, and-iff, eqb-iff, or-false, or3-false, pos-eqb, in-range}
use Rattle.order.proofs.Searches.{first-none, none_below, first-all}
use Rattle.model.specs.Plan.{Block, Plan, places, domains, block_count, block_of, marks_pair, pairs_next, upper, min_total, common_length, latest_version, Format, format_in, header_length, record_at, plan_in, mark_in, version_in, racks_in, rack_size_in, feeds_in, capacity_in, block_count_in}
use Rattle.model.specs.Refusal.{refuse_if, or_else, is_refusal, mark, max_machines, max_capacity, max_blocks, check1, check2, check3, check4, check22, check5, check6, check7, check8, check9, alike, check17, check23, check10, check11, check12, block_refusal, blocks_refusal, pair_refusal, pairs_refusal, plan_refusal, refusal, refused, accepted, verdict, judge}
use Rattle.theory.specs.Refusal.{ValidBlock, ValidPair, Shaped, Valid, PastRow17, PastRow23, AcceptedLaws}
use Rattle.theory.proofs.Plan.{plan_in-block_count}

-- ── refuse_if ─────────────────────────────────────────────────────────────────────────────────────
-- a check that gives 0 has a false condition, and so have the later ones
pub refuse_if-zero : (t : Bool) (code later : ℕ) → refuse_if t (suc code) later ≡ 0 → (t ≡ false) × (later ≡ 0)
refuse_if-zero true code later e = absurd (let z : ◌≡◌ {A = ℕ} 0 1 = cc in omega arith)
refuse_if-zero false code later e = (refl, e)

-- the same of a check that a number is not above a limit
pub refuse_if-within : (limit n code later : ℕ) → refuse_if (ltb limit n) (suc code) later ≡ 0 → (n ≤ limit) × (later ≡ 0)
refuse_if-within limit n code later e = let z = refuse_if-zero _ _ _ e in (ltb-false _ _ z.0, z.1)

-- what holds of the check's code and of the later ones holds of what it gives
pub refuse_if-all : (P : ℕ → Type 0) (t : Bool) (code later : ℕ) → P code → P later → P (refuse_if t code later)
refuse_if-all P true code later here else = here
refuse_if-all P false code later here else = else

-- a condition of which the second half is false
and_no : (t : Bool) → (t && false) ≡ false
and_no true = refl
and_no false = refl

-- ── or_else ───────────────────────────────────────────────────────────────────────────────────────
pub or_else-some : (code later : ℕ) → (code ≡ 0 → ⊥) → or_else code later ≡ code
or_else-some zero later h = absurd (h refl)
or_else-some (suc code) later h = refl

pub or_else-all : (P : ℕ → Type 0) (code later : ℕ) → P code → P later → P (or_else code later)
or_else-all P zero later here else = else
or_else-all P (suc code) later here else = here

-- ── check4 to check7 ─────────────────────────────────────────────────────────────────────────────
-- a version that is read passes
pub check3-read : (latest version later : ℕ) → 1 ≤ version → version ≤ latest → check3 latest version later ≡ later
unfolding check3
check3-read latest version later some known = rw (pos-eqb version some, le-ltb latest version known)

pub check4-zero : (racks rack_size later : ℕ) → check4 racks rack_size later ≡ 0
    → (1 ≤ racks) × (1 ≤ rack_size) × (racks * rack_size ≤ max_machines) × (later ≡ 0)
unfolding check4
check4-zero racks rack_size later e =
    let z = refuse_if-zero _ _ _ e in
    let parts = or3-false (eqb racks 0) (eqb rack_size 0) (ltb max_machines (racks * rack_size)) z.0 in
    (pos_of_ne-zero (eqb-false _ _ parts.0), pos_of_ne-zero (eqb-false _ _ parts.1), ltb-false _ _ parts.2, z.1)

pub check22-zero : (racks feeds later : ℕ) → check22 racks feeds later ≡ 0 → (1 ≤ feeds) × (racks % feeds ≡ 0) × (later ≡ 0)
unfolding check22
check22-zero racks feeds later e =
    let z = refuse_if-zero _ _ _ e in
    let parts = or-false (eqb feeds 0) (not (eqb (racks % feeds) 0)) z.0 in
    (pos_of_ne-zero (eqb-false _ _ parts.0), eqb-true _ _ (not-false _ parts.1), z.1)

pub check22-passed : (racks feeds later : ℕ) → 1 ≤ feeds → racks % feeds ≡ 0 → check22 racks feeds later ≡ later
unfolding check22
check22-passed racks feeds later some whole = rw (pos-eqb feeds some, eq-eqb (racks % feeds) 0 whole)

pub check5-zero : (capacity later : ℕ) → check5 capacity later ≡ 0
    → (1 ≤ capacity) × (capacity ≤ max_capacity) × (later ≡ 0)
unfolding check5
check5-zero capacity later e =
    let z = refuse_if-zero _ _ _ e in
    let range = in-range capacity max_capacity z.0 in
    (range.0, range.1, z.1)

-- it is not judged on a missing byte
pub check6-short : (f : Format) (size count later : ℕ) → size < header_length f → check6 f size count later ≡ later
unfolding check6
check6-short f size count later l = rw (lt-leb (header_length f) size l)

pub check6-long : (f : Format) (size count later : ℕ) → header_length f ≤ size → check6 f size count later ≡ refuse_if (ltb max_blocks count) 6 later
unfolding check6
check6-long f size count later l = rw (le-leb (header_length f) size l)

pub check6-within : (f : Format) (size count later : ℕ) → count ≤ max_blocks → check6 f size count later ≡ later
unfolding check6
check6-within f size count later l = rw (le-ltb max_blocks count l, and_no (leb (header_length f) size))

pub check6-above : (f : Format) (size count later : ℕ) → (size < header_length f → count ≤ max_blocks) → max_blocks < count
    → check6 f size count later ≡ 6
check6-above f size count later counted l = elim (dec_lt size (header_length f)) [
  | yes short ↦ absurd (omega (arith, counted short))
  | no long ↦ check6-long f size count later (omega arith) ∙ (rw (lt-ltb max_blocks count l))
]

-- where it passes, the later rows decide
pub check6-rest : (f : Format) (size count later : ℕ) → check6 f size count later ≡ 0 → later ≡ 0
unfolding check6
check6-rest f size count later e = (refuse_if-zero (leb (header_length f) size && ltb max_blocks count) 5 later e).1

pub check6-zero : (f : Format) (size count later : ℕ) → header_length f ≤ size → check6 f size count later ≡ 0
    → (count ≤ max_blocks) × (later ≡ 0)
check6-zero f size count later l e = refuse_if-within max_blocks count _ later (sym (check6-long f size count later l) ∙ e)

pub check7-zero : (f : Format) (size count later : ℕ) → check7 f size count later ≡ 0 → (size ≡ record_at f count) × (later ≡ 0)
unfolding check7
check7-zero f size count later e = let z = refuse_if-zero _ _ _ e in (eqb-true _ _ (not-false _ z.0), z.1)

-- ── check23 and check10 to check12 ───────────────────────────────────────────────────────────────
pub check23-above : (version room budget later : ℕ) → 4 ≤ version → room < budget → check23 version room budget later ≡ 23
unfolding check23
check23-above version room budget later late l = rw (le-leb 4 version late, lt-ltb room budget l)

-- a version before 4 passes with any budget, and any version with one that can be used
pub check23-early : (version room budget later : ℕ) → version < 4 → check23 version room budget later ≡ later
unfolding check23
check23-early version room budget later l = rw (lt-leb 4 version l)

pub check23-usable : (version room budget later : ℕ) → budget ≤ room → check23 version room budget later ≡ later
unfolding check23
check23-usable version room budget later l = rw (le-ltb room budget l, and_no (leb 4 version))

pub check23-passed : (version room budget later : ℕ) → (4 ≤ version → budget ≤ room) → check23 version room budget later ≡ later
check23-passed version room budget later usable = elim (dec_lt version 4) [
  | yes early ↦ check23-early version room budget later early
  | no late ↦ check23-usable version room budget later (usable (omega arith))
]

check10-zero : (budget total later : ℕ) → check10 budget total later ≡ 0 → (total ≤ budget) × (later ≡ 0)
unfolding check10
check10-zero budget total later e = refuse_if-within budget total _ later e

check11-zero : (room total later : ℕ) → check11 room total later ≡ 0 → (total ≤ room) × (later ≡ 0)
unfolding check11
check11-zero room total later e = refuse_if-within room total _ later e

pub check12-zero : (lent count later : ℕ) → check12 lent count later ≡ 0 → (count ≤ lent) × (later ≡ 0)
unfolding check12
check12-zero lent count later e = refuse_if-within lent count _ later e

pub check12-short : (lent count later : ℕ) → lent < count → check12 lent count later ≡ 12
unfolding check12
check12-short lent count later l = rw (lt-ltb lent count l)

pub check12-enough : (lent count later : ℕ) → count ≤ lent → check12 lent count later ≡ later
unfolding check12
check12-enough lent count later l = rw (le-ltb lent count l)

-- ── block_refusal ─────────────────────────────────────────────────────────────────────────────────
block_refusal-zero : (p : Plan) (i : ℕ) → block_refusal p i ≡ 0 → ValidBlock p i
unfolding block_refusal check8 check9
block_refusal-zero p i e =
    let b = block_of p i in
    let z8 = refuse_if-zero _ _ _ e in
    let z9 = refuse_if-zero _ _ _ z8.1 in
    let range = in-range b.min_replicas (upper p i) z8.0 in
    let parts =
    or3-false (eqb b.min_domains 0) (ltb b.min_replicas b.min_domains) (ltb (domains p) b.min_domains) z9.0
    in
    record {
      min-pos = range.0;
      min-upper = range.1;
      domains-pos = pos_of_ne-zero (eqb-false _ _ parts.0);
      domains-min = ltb-false _ _ parts.1;
      domains-all = ltb-false _ _ parts.2;
    }

pub block_refusal-valid : (p : Plan) (i : ℕ) → ValidBlock p i → block_refusal p i ≡ 0
unfolding block_refusal check8 check9
block_refusal-valid p i v =
    let b = block_of p i in
    rw (
      pos-eqb b.min_replicas v.min-pos,
      le-ltb (upper p i) b.min_replicas v.min-upper,
      pos-eqb b.min_domains v.domains-pos,
      le-ltb b.min_replicas b.min_domains v.domains-min,
      le-ltb (domains p) b.min_domains v.domains-all,
    )

block_refusal-le : (p : Plan) (i : ℕ) → block_refusal p i ≤ 9
unfolding block_refusal check8 check9
block_refusal-le p i =
    let b = block_of p i in
    refuse_if-all (λ n. n ≤ 9) (eqb b.min_replicas 0 || ltb (upper p i) b.min_replicas) 8 _ (lit≤ tt)
    (refuse_if-all (λ n. n ≤ 9) (eqb b.min_domains 0 || ltb b.min_replicas b.min_domains || ltb (domains p) b.min_domains) 9 0
    (lit≤ tt) (lit≤ tt))

le-zero : (n : ℕ) → n ≤ 0 → n ≡ 0
le-zero n h = omega arith

-- ── blocks_refusal ────────────────────────────────────────────────────────────────────────────────
-- where checks 8 and 9 pass, every block is valid
blocks_refusal-zero : (p : Plan) → blocks_refusal p ≡ 0 → (i : ℕ) → i < block_count p → ValidBlock p i
unfolding blocks_refusal
blocks_refusal-zero p e i l =
    let none = none_below is_refusal 0 refl (block_refusal p) (block_count p) (ap is_refusal e) i l in
    block_refusal-zero p i (le-zero _ (ltb-false _ _ none))

pub blocks_refusal-le : (p : Plan) → blocks_refusal p ≤ 9
unfolding blocks_refusal
blocks_refusal-le p = first-all (λ n. n ≤ 9) is_refusal 0 (block_refusal p) (block_count p) (lit≤ tt) (λ i l. block_refusal-le p i)

-- ── pair_refusal ──────────────────────────────────────────────────────────────────────────────────
-- a condition of row 17 about a block that is paired with the next one
unless-marked : (t cond : Bool) → (t && cond) ≡ false → t ≡ true → cond ≡ false
unless-marked true cond e m = e
unless-marked false cond e m = no-contradiction (sym m)

unless-false : (t c : Bool) → (t ≡ true → c ≡ false) → (t && c) ≡ false
unless-false true c h = h refl
unless-false false c h = refl

alike-parts : (a b : Block) → alike a b ≡ true
    → ((a.popularity ≡ b.popularity) × (a.min_replicas ≡ b.min_replicas)) × (a.min_domains ≡ b.min_domains)
unfolding alike
alike-parts a b = (and-iff _ _ (and-iff _ _ (eqb-iff _ _) (eqb-iff _ _)) (eqb-iff _ _)).0

pair_refusal-zero : (p : Plan) (i : ℕ) → i < block_count p → pair_refusal p i ≡ 0 → ValidPair p i
unfolding pair_refusal check17 pairs_next
pair_refusal-zero p i l e =
    let own = block_of p i in
    let next = block_of p (suc i) in
    let z = refuse_if-zero (ltb 1 own.pair_byte) 16 _ e in
    let last = refuse_if-zero (marks_pair own && eqb (suc i) (block_count p)) 16 _ z.1 in
    let both = refuse_if-zero (marks_pair own && marks_pair next) 16 _ last.1 in
    let unlike = refuse_if-zero (marks_pair own && not (alike own next)) 16 _ both.1 in
    let same : marks_pair own ≡ true → ((own.popularity ≡ next.popularity) × (own.min_replicas ≡ next.min_replicas)) × (own.min_domains ≡ next.min_domains) =
    λ m. alike-parts own next (not-false _ (unless-marked _ _ unlike.0 m))
    in
    record {
      byte-max = ltb-false _ _ z.0;
      next-below = λ m. let apart = eqb-false _ _ (unless-marked _ _ last.0 m) in ⊎_elim (λ s. absurd (apart s)) (λ s. s) (eq-or-lt_of_le l);
      next-free = λ m. unless-marked _ _ both.0 m;
      popularity-same = λ m. (same m).0.0;
      replicas-same = λ m. (same m).0.1;
      domains-same = λ m. (same m).1;
    }

pub pair_refusal-valid : (p : Plan) (i : ℕ) → ValidPair p i → pair_refusal p i ≡ 0
unfolding pair_refusal check17 pairs_next alike
pair_refusal-valid p i v =
    let own = block_of p i in
    let next = block_of p (suc i) in
    let unlike : marks_pair own ≡ true → not (alike own next) ≡ false =
    λ m. rw (eq-eqb _ _ (v.popularity-same m), eq-eqb _ _ (v.replicas-same m), eq-eqb _ _ (v.domains-same m))
    in
    rw (
      le-ltb 1 own.pair_byte v.byte-max,
      unless-false (marks_pair own) (eqb (suc i) (block_count p)) (λ m. ne_eqb (suc i) (block_count p) (λ e. omega (arith, v.next-below m))),
      unless-false (marks_pair own) (marks_pair next) v.next-free,
      unless-false (marks_pair own) (not (alike own next)) unlike,
    )

pair_refusal-cases : (p : Plan) (i : ℕ) → (pair_refusal p i ≡ 17) ⊎ (pair_refusal p i ≡ 0)
unfolding pair_refusal check17
pair_refusal-cases p i =
    let own = block_of p i in
    let next = block_of p (suc i) in
    row (ltb 1 own.pair_byte) _
    (row (marks_pair own && eqb (suc i) (block_count p)) _
    (row (marks_pair own && marks_pair next) _
    (row (marks_pair own && not (alike own next)) 0 (inr refl))))
  where
    row : (t : Bool) (later : ℕ) → (later ≡ 17) ⊎ (later ≡ 0) → (refuse_if t 17 later ≡ 17) ⊎ (refuse_if t 17 later ≡ 0)
    row true later h = inl refl
    row false later h = h

-- ── pairs_refusal ─────────────────────────────────────────────────────────────────────────────────
-- where check 17 passes, every pair is valid
pairs_refusal-zero : (p : Plan) → pairs_refusal p ≡ 0 → (i : ℕ) → i < block_count p → ValidPair p i
unfolding pairs_refusal
pairs_refusal-zero p e i l =
    let none = none_below is_refusal 0 refl (pair_refusal p) (block_count p) (ap is_refusal e) i l in
    pair_refusal-zero p i l (le-zero _ (ltb-false _ _ none))

pub pairs_refusal-cases : (p : Plan) → (pairs_refusal p ≡ 17) ⊎ (pairs_refusal p ≡ 0)
unfolding pairs_refusal
pairs_refusal-cases p =
    first-all (λ n. (n ≡ 17) ⊎ (n ≡ 0)) is_refusal 0 (pair_refusal p) (block_count p) (inr refl) (λ i l. pair_refusal-cases p i)

-- ── plan_refusal ──────────────────────────────────────────────────────────────────────────────────
-- The code that rows 10 and 11 give, and with row 23 before them.
abbrev pub total_refusal : Plan → ℕ
total_refusal p = check10 p.budget (min_total p) (check11 (places p) (min_total p) 0)

abbrev pub budget_refusal : Plan → ℕ
budget_refusal p = check23 p.version (places p) p.budget (total_refusal p)

pub plan_refusal-shaped : (p : Plan) → Shaped p → plan_refusal p ≡ budget_refusal p
unfolding plan_refusal blocks_refusal pairs_refusal
plan_refusal-shaped p shaped =
    let n = block_count p in
    rw (
      first-none is_refusal 0 refl (block_refusal p) n (λ i l. ap is_refusal (block_refusal-valid p i (shaped.block i l))),
      first-none is_refusal 0 refl (pair_refusal p) n (λ i l. ap is_refusal (pair_refusal-valid p i (shaped.pair i l))),
    )

pub plan_refusal-valid : (p : Plan) → Valid p → plan_refusal p ≡ 0
unfolding check10 check11
plan_refusal-valid p valid =
    plan_refusal-shaped p valid.shaped
    ∙ check23-passed p.version (places p) p.budget (total_refusal p) valid.budget-usable
    ∙ (rw (le-ltb p.budget (min_total p) valid.in-budget, le-ltb (places p) (min_total p) valid.in-places))

-- the numbers of its rows
pub plan_refusal-cases : (p : Plan) → (plan_refusal p ≤ 17) ⊎ (plan_refusal p ≡ 23)
unfolding plan_refusal check23 check10 check11
plan_refusal-cases p =
    or_else-all Row (blocks_refusal p) _ (inl (le_trans (blocks_refusal-le p) (lit≤ tt)))
    (or_else-all Row (pairs_refusal p) _ (inl (⊎_elim (λ e. omega (arith, e)) (λ e. omega (arith, e)) (pairs_refusal-cases p)))
    (refuse_if-all Row (leb 4 p.version && ltb (places p) p.budget) 23 _ (inr refl)
    (refuse_if-all Row (ltb p.budget (min_total p)) 10 _ (inl (lit≤ tt))
    (refuse_if-all Row (ltb (places p) (min_total p)) 11 0 (inl (lit≤ tt)) (inl (lit≤ tt))))))
  where
    Row : ℕ → Type 0
    Row n = (n ≤ 17) ⊎ (n ≡ 23)

plan_refusal-le : (p : Plan) → plan_refusal p ≤ 23
plan_refusal-le p = ⊎_elim (λ l. le_trans l (lit≤ tt)) (λ e. omega (arith, e)) (plan_refusal-cases p)

-- ── refusal ──────────────────────────────────────────────────────────────────────────────────────
-- a plan's refusal has a number up to 23
pub refusal-le : (bytes : List ℕ) → refusal bytes ≤ 23
unfolding refusal check1 check2 check3 check4 check22 check5 check6 check7
refusal-le bytes =
    let r = racks_in bytes in
    let s = rack_size_in bytes in
    let f = feeds_in bytes in
    let c = capacity_in bytes in
    let b = block_count_in bytes in
    row (ltb (length bytes) common_length) 1 _ (lit≤ tt)
    (row (not (eqb (mark_in bytes) mark)) 2 _ (lit≤ tt)
    (row (eqb (version_in bytes) 0 || ltb latest_version (version_in bytes)) 3 _ (lit≤ tt)
    (row (eqb r 0 || eqb s 0 || ltb max_machines (r * s)) 4 _ (lit≤ tt)
    (row (eqb f 0 || not (eqb (r % f) 0)) 22 _ (lit≤ tt)
    (row (eqb c 0 || ltb max_capacity c) 5 _ (lit≤ tt)
    (row (leb (header_length (format_in bytes)) (length bytes) && ltb max_blocks b) 6 _ (lit≤ tt)
    (row (not (eqb (length bytes) (record_at (format_in bytes) b))) 7 _ (lit≤ tt)
    (plan_refusal-le (plan_in bytes)))))))))
  where
    row : (t : Bool) (code later : ℕ) → code ≤ 23 → later ≤ 23 → refuse_if t code later ≤ 23
    row = refuse_if-all (λ n. n ≤ 23)

-- A row that comes before 23: 1 to 9, 17 and 22.
abbrev Early : ℕ → Type 0
Early row = (row ≤ 9) ⊎ ((17 ≤ row) × (row ≤ 22))

module _ (code : ℕ) (past : PastRow17 code) where
  not-row : (row : ℕ) → 1 ≤ row → Early row → row ≡ code → ⊥
  not-row row some early e = ⊎_elim (λ (h : row ≤ 9). low h past) (λ (h : (17 ≤ row) × (row ≤ 22)). high h.0 h.1 past) early
    where
      low : row ≤ 9 → PastRow17 code → ⊥
      low h (inl is) = omega (arith, is)
      low h (inr (inl is)) = omega (arith, is)
      low h (inr (inr (inl is))) = omega (arith, is)
      low h (inr (inr (inr is))) = omega (arith, is)

      high : 17 ≤ row → row ≤ 22 → PastRow17 code → ⊥
      high h k (inl is) = omega (arith, is)
      high h k (inr (inl is)) = omega (arith, is)
      high h k (inr (inr (inl is))) = omega (arith, is)
      high h k (inr (inr (inr is))) = omega (arith, is)

  -- a check of such a row that gives the code has a false condition, and the code is the later rows'
  refuse_if-past : (t : Bool) (row later : ℕ) → refuse_if t (suc row) later ≡ code → Early (suc row)
      → (refuse_if t (suc row) 0 ≡ 0) × (later ≡ code)
  refuse_if-past true row later e early = absurd (not-row (suc row) (omega arith) early e)
  refuse_if-past false row later e early = (refl, e)

  or_else-past : (found later : ℕ) → Early found → or_else found later ≡ code → (found ≡ 0) × (later ≡ code)
  or_else-past zero later early e = (refl, e)
  or_else-past (suc row) later early e = absurd (not-row (suc row) (omega arith) early e)

-- what rows 1 to 9, 17 and 22 leave
rows-past : (code : ℕ) → PastRow17 code → (bytes : List ℕ) → refusal bytes ≡ code
    → (1 ≤ racks_in bytes) × (1 ≤ rack_size_in bytes) × (racks_in bytes * rack_size_in bytes ≤ max_machines)
    × (1 ≤ feeds_in bytes) × (racks_in bytes % feeds_in bytes ≡ 0) × (1 ≤ capacity_in bytes) × (capacity_in bytes ≤ max_capacity) × (block_count_in bytes ≤ max_blocks)
    × (length bytes ≡ record_at (format_in bytes) (block_count_in bytes)) × (blocks_refusal (plan_in bytes) ≡ 0) × (pairs_refusal (plan_in bytes) ≡ 0)
    × (budget_refusal (plan_in bytes) ≡ code)
unfolding refusal check1 check2 check3 check4 check22 check5 check6 check7 plan_refusal
rows-past code past bytes e =
    let r = racks_in bytes in
    let s = rack_size_in bytes in
    let f = feeds_in bytes in
    let c = capacity_in bytes in
    let b = block_count_in bytes in
    let z1 = refuse_if-past code past (ltb (length bytes) common_length) 0 _ e (inl (lit≤ tt)) in
    let z2 = refuse_if-past code past (not (eqb (mark_in bytes) mark)) 1 _ z1.1 (inl (lit≤ tt)) in
    let z3 = refuse_if-past code past (eqb (version_in bytes) 0 || ltb latest_version (version_in bytes)) 2 _ z2.1 (inl (lit≤ tt)) in
    let z4 = refuse_if-past code past (eqb r 0 || eqb s 0 || ltb max_machines (r * s)) 3 _ z3.1 (inl (lit≤ tt)) in
    let z22 = refuse_if-past code past (eqb f 0 || not (eqb (r % f) 0)) 21 _ z4.1 (inr (lit≤ tt, lit≤ tt)) in
    let z5 = refuse_if-past code past (eqb c 0 || ltb max_capacity c) 4 _ z22.1 (inl (lit≤ tt)) in
    let z6 = refuse_if-past code past (leb (header_length (format_in bytes)) (length bytes) && ltb max_blocks b) 5 _ z5.1 (inl (lit≤ tt)) in
    let z7 = refuse_if-past code past (not (eqb (length bytes) (record_at (format_in bytes) b))) 6 _ z6.1 (inl (lit≤ tt)) in
    let blocks = or_else-past code past (blocks_refusal (plan_in bytes)) _ (inl (blocks_refusal-le (plan_in bytes))) z7.1 in
    let pairs = or_else-past code past (pairs_refusal (plan_in bytes)) _ (pairs-early (pairs_refusal-cases (plan_in bytes))) blocks.1 in
    let h4 = check4-zero r s 0 z4.0 in
    let h22 = check22-zero r f 0 z22.0 in
    let h5 = check5-zero c 0 z5.0 in
    let h7 = check7-zero (format_in bytes) (length bytes) b 0 z7.0 in
    let h6 = check6-zero (format_in bytes) (length bytes) b 0 (omega (arith, h7.0)) z6.0 in
    (h4.0, h4.1, h4.2, h22.0, h22.1, h5.0, h5.1, h6.0, h7.0, blocks.0, pairs.0, pairs.1)
  where
    pairs-early : (pairs_refusal (plan_in bytes) ≡ 17) ⊎ (pairs_refusal (plan_in bytes) ≡ 0) → Early (pairs_refusal (plan_in bytes))
    pairs-early (inl e) = inr (omega (arith, e), omega (arith, e))
    pairs-early (inr e) = inl (omega (arith, e))

module _ (bytes : List ℕ) (past : PastRow17 (refusal bytes)) where
  pub refusal-shaped : Shaped (plan_in bytes)
  unfolding plan_in
  refusal-shaped =
      let z = rows-past (refusal bytes) past bytes refl in
      record {
        racks-pos = z.0;
        size-pos = z.1;
        feeds-pos = z.3;
        feeds-divide = z.4;
        machines-max = z.2;
        capacity-pos = z.5;
        capacity-max = z.6;
        blocks-max = rw (plan_in-block_count bytes) z.7;
        block = blocks_refusal-zero (plan_in bytes) z.9;
        pair = pairs_refusal-zero (plan_in bytes) z.10;
      }

  pub refusal-length : length bytes ≡ record_at (format_in bytes) (block_count_in bytes)
  refusal-length = (rows-past (refusal bytes) past bytes refl).8

  pub refusal-budget : refusal bytes ≡ budget_refusal (plan_in bytes)
  refusal-budget = sym (rows-past (refusal bytes) past bytes refl).11

-- past row 23, a budget of version 4 can be used, and rows 10 and 11 decide
module _ (bytes : List ℕ) (past : PastRow23 (refusal bytes)) where
  pub refusal-usable : 4 ≤ (plan_in bytes).version → (plan_in bytes).budget ≤ places (plan_in bytes)
  refusal-usable late = elim (dec_lt (places (plan_in bytes)) (plan_in bytes).budget) [
    | yes above ↦ absurd (not23 past (refusal-budget bytes (inr past) ∙ check23-above _ _ _ _ late above))
    | no within ↦ omega arith
  ]
    where
      not23 : PastRow23 (refusal bytes) → refusal bytes ≡ 23 → ⊥
      not23 (inl is) e = omega (arith, is, e)
      not23 (inr (inl is)) e = omega (arith, is, e)
      not23 (inr (inr is)) e = omega (arith, is, e)

  pub refusal-total : refusal bytes ≡ total_refusal (plan_in bytes)
  refusal-total = refusal-budget bytes (inr past) ∙ check23-passed _ _ _ (total_refusal (plan_in bytes)) refusal-usable

-- a plan that no row turns back
pub refusal-zero : (bytes : List ℕ) → refusal bytes ≡ 0 → Valid (plan_in bytes)
refusal-zero bytes e =
    let past : PastRow23 (refusal bytes) = inr (inr e) in
    let z10 = check10-zero _ _ _ (sym (refusal-total bytes past) ∙ e) in
    let z11 = check11-zero _ _ _ z10.1 in
    record { shaped = refusal-shaped bytes (inr past); budget-usable = refusal-usable bytes past; in-budget = z10.0; in-places = z11.0 }

-- ── judge ────────────────────────────────────────────────────────────────────────────────────────
pub judge-refused : (bytes : List ℕ) (code : ℕ) → refusal bytes ≡ code → 1 ≤ code → judge bytes ≡ refused code
unfolding judge
judge-refused bytes zero e l = absurd (omega arith)
judge-refused bytes (suc code) e l = ap (λ (n : ℕ). verdict n (plan_in bytes)) e

pub judge-accepted : (bytes : List ℕ) → refusal bytes ≡ 0 → judge bytes ≡ accepted (plan_in bytes)
unfolding judge
judge-accepted bytes e = ap (λ (n : ℕ). verdict n (plan_in bytes)) e

-- a refusal has a number
pub judge-some : (bytes : List ℕ) (code : ℕ) → judge bytes ≡ refused code → 1 ≤ code
unfolding judge
judge-some bytes code e = go (refusal bytes) e
  where
    go : (n : ℕ) → verdict n (plan_in bytes) ≡ refused code → 1 ≤ code
    go zero e = absurd (let z : ◌≡◌ {A = ℕ} 0 1 = cc in omega arith)
    go (suc n) e = let same : suc n ≡ code = cc in omega arith

pub verdict-accepted : (code : ℕ) (p q : Plan) → verdict code p ≡ accepted q → (code ≡ 0) × (p ≡ q)
verdict-accepted zero p q e = (refl, cc)
verdict-accepted (suc code) p q e = absurd (let z : ◌≡◌ {A = ℕ} 0 1 = cc in omega arith)

-- An accepted plan is the one that the bytes hold, it is valid, and its length is that of its header and B records.
pub accepted-laws : AcceptedLaws
unfolding judge
accepted-laws bytes p e =
    let z = verdict-accepted (refusal bytes) (plan_in bytes) p e in
    record {
      held = sym z.1;
      valid = rw z.1 at (refusal-zero bytes z.0);
      length-is = refusal-length bytes (inr (inr (inr z.0))) ∙ ap (record_at (format_in bytes)) (sym (plan_in-block_count bytes) ∙ ap block_count z.1);
    }

-- an accepted plan's bytes pass rows 2 and 3
pub accepted-mark : (bytes : List ℕ) (p : Plan) → judge bytes ≡ accepted p
    → (mark_in bytes ≡ mark) × (1 ≤ version_in bytes) × (version_in bytes ≤ latest_version)
unfolding judge refusal check1 check2 check3
accepted-mark bytes p e =
    let z1 = refuse_if-zero (ltb (length bytes) common_length) 0 _ (verdict-accepted (refusal bytes) (plan_in bytes) p e).0 in
    let z2 = refuse_if-zero (not (eqb (mark_in bytes) mark)) 1 _ z1.1 in
    let z3 = refuse_if-zero (eqb (version_in bytes) 0 || ltb latest_version (version_in bytes)) 2 _ z2.1 in
    let range = in-range (version_in bytes) latest_version z3.0 in
    (eqb-true (mark_in bytes) mark (not-false _ z2.0), range.0, range.1)
