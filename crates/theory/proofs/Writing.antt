-- Laws of the bytes that are written: how many they are, and that what is read where they stand is what was written.
-- Assumes nothing.
use mathlib.Core.Path.{◌≡◌, refl, ap, ap₂, sym, ◌∙◌}
use mathlib.Core.Bool.{cond}
use mathlib.Core.List.{List, [], ◌∷◌, ◌++◌, append_assoc}
use Prim.Native.Nat.{ℕ, zero, suc, ◌+◌, ◌*◌, ◌-◌, ◌/◌, ◌%◌, ◌^◌, ◌<◌, ◌≤◌}
use native.Mathlib.Nat.{pow-suc, mul_comm, mul-le-mul_left, mul-le-mul_right, add-zero, not-suc-le-zero}
use native.Mathlib.Numerals.{add-one}
use native.Mathlib.Decide.{ℕ_discrete}
use native.Mathlib.Omega.{arith}
use lib.Arith.{digits_div, digits_mod}
use lib.Dec.{eqb, lit<}
use lib.ListN.{length, get_or, take, drop, length-append}
use lib.Seq.{take-length, take-add, drop-drop, get_or-drop, take-append_seam, drop-append_seam, take-take, drop-cons, get_or-take}
use Rattle.order.specs.Table.{joined}
use Rattle.order.proofs.Booleans.{pos-eqb}
use Rattle.order.proofs.Tables.{joined_length}
use Rattle.model.specs.Plan.{Block, Plan, machines, block_count, field, header_length, mark_in, version_in, racks_in, rack_size_in, feeds_in, capacity_in, budget_in, block_count_in, Format, format_of, min_replicas_at, min_domains_at, pair_byte_at, record_length, block_at}
use Rattle.model.specs.Refusal.{mark}
use Rattle.model.specs.Writing.{bytes_of, header_bytes, record_bytes}
use Rattle.theory.specs.Refusal.{Shaped}
use Rattle.theory.specs.Writing.{AreBytes, BlockFits, Layouts, PlanFits}
use Rattle.theory.proofs.Plan.{domains-le, field_bound, field-narrow}

-- ── Stands ───────────────────────────────────────────────────────────────────────────────────────
-- The piece stands in the bytes, from `at` on.
unfoldable pub Stands : List ℕ → ℕ → List ℕ → Type 0
Stands bytes at piece = take (length piece) (drop at bytes) ≡ piece

-- between two others, as the only one, and one as long as all the bytes
pub stands-between : (before piece later : List ℕ) → Stands (before ++ piece ++ later) (length before) piece
unfolding Stands
stands-between before piece later =
    rw (append_assoc before piece later, drop-append_seam before (piece ++ later)) (take-append_seam piece later)

pub stands-all : (bytes : List ℕ) → Stands bytes 0 bytes
unfolding Stands
stands-all bytes = take-length bytes

pub stands-whole : (bytes piece : List ℕ) → length piece ≡ length bytes → Stands bytes 0 piece → piece ≡ bytes
unfolding Stands
stands-whole bytes piece e h = sym h ∙ ap (λ (n : ℕ). take n bytes) e ∙ take-length bytes

-- two pieces, one after the other, the first one of length k
module _ (bytes : List ℕ) (at : ℕ) (x y : List ℕ) (k : ℕ) (long : length x ≡ k) where
  both-take : take (length (x ++ y)) (drop at bytes) ≡ take (length x) (drop at bytes) ++ take (length y) (drop (at + k) bytes)
  both-take =
      ap (λ (n : ℕ). take n (drop at bytes)) (length-append x y)
      ∙ take-add (length x) (length y) (drop at bytes)
      ∙ ap (λ (s : List ℕ). take (length x) (drop at bytes) ++ take (length y) s)
      (drop-drop (length x) at bytes ∙ ap (λ (n : ℕ). drop (at + n) bytes) long)

  pub stands-both : Stands bytes at x → Stands bytes (at + k) y → Stands bytes at (x ++ y)
  unfolding Stands
  stands-both first next = both-take ∙ ap₂ ◌++◌ first next

  pub stands-first : Stands bytes at (x ++ y) → Stands bytes at x
  unfolding Stands
  stands-first h =
      sym (take-take (length x) (length (x ++ y)) (drop at bytes) (simp length-append (omega arith)))
      ∙ ap (take (length x)) h
      ∙ take-append_seam x y

  pub stands-next : Stands bytes at (x ++ y) → Stands bytes (at + k) y
  unfolding Stands
  stands-next h =
      let next = take (length y) (drop (at + k) bytes) in
      sym (drop-append_seam x next)
      ∙ ap (drop (length x)) (ap (λ (s : List ℕ). s ++ next) (sym (stands-first h)) ∙ sym both-take ∙ h)
      ∙ drop-append_seam x y

-- no bytes, and a byte
stands-none : (bytes : List ℕ) (at : ℕ) → Stands bytes at []
unfolding Stands
stands-none bytes at = refl

stands-byte : (bytes : List ℕ) (at : ℕ) → at < length bytes → Stands bytes at (get_or bytes at 0 ∷ [])
unfolding Stands
stands-byte bytes at l = ap (take 1) (drop-cons bytes at 0 l)

byte-stands : (bytes : List ℕ) (at b : ℕ) → Stands bytes at (b ∷ []) → get_or bytes at 0 ≡ b
unfolding Stands
byte-stands bytes at b h =
    ap (λ (n : ℕ). get_or bytes n 0) (sym (add-zero at))
    ∙ sym (get_or-drop at bytes 0 0) ∙ sym (get_or-take 1 (drop at bytes) 0 0 (omega arith)) ∙ ap (λ (s : List ℕ). get_or s 0 0) h

-- ── bytes_of ──────────────────────────────────────────────────────────────────────────────────────
pub bytes_of-length : (width n : ℕ) → length (bytes_of width n) ≡ width
unfolding bytes_of
bytes_of-length zero n = refl
bytes_of-length (suc width) n =
    length-append (bytes_of width (n / 256)) (n % 256 ∷ []) ∙ ap (λ (k : ℕ). k + 1) (bytes_of-length width (n / 256)) ∙ add-one width

-- in no bytes, nothing is put
pub bytes_of-none : (width n : ℕ) → width ≡ 0 → bytes_of width n ≡ []
unfolding bytes_of
bytes_of-none zero n e = refl
bytes_of-none (suc width) n e = absurd (omega arith)

-- the last byte after those of n / 256
pub bytes_of-more : (width n : ℕ) → (width ≡ 0 → ⊥) → bytes_of width n ≡ bytes_of (width - 1) (n / 256) ++ (n % 256) ∷ []
unfolding bytes_of
bytes_of-more zero n some = absurd (some refl)
bytes_of-more (suc width) n some = let e : suc width - 1 ≡ width = omega arith in rw e

-- where a number's bytes stand, that number is read
pub bytes_of-read : (bytes : List ℕ) (at width n : ℕ) → n < 256 ^ width → Stands bytes at (bytes_of width n) → field bytes at width ≡ n
unfolding field bytes_of
bytes_of-read bytes at zero n l h = omega arith
bytes_of-read bytes at (suc width) n l h =
    let p = pow-suc 256 width in
    let long = bytes_of-length width (n / 256) in
    let high = bytes_of-read bytes at width (n / 256) (omega arith) (stands-first bytes at _ (n % 256 ∷ []) width long h) in
    let low = byte-stands bytes (at + width) (n % 256) (stands-next bytes at (bytes_of width (n / 256)) _ width long h) in
    rw (high, low) (omega arith)

-- the bytes of the number that is read stand where it was read
pub bytes_of-stands : (bytes : List ℕ) → AreBytes bytes → (at width : ℕ) → at + width ≤ length bytes
    → Stands bytes at (bytes_of width (field bytes at width))
unfolding field bytes_of
bytes_of-stands bytes each at zero l = stands-none bytes at
bytes_of-stands bytes each at (suc width) l =
    let high = bytes_of-stands bytes each at width (omega arith) in
    let low = stands-byte bytes (at + width) (omega arith) in
    rw (digits_div (field bytes at width) (each (at + width)), digits_mod (field bytes at width) (each (at + width)))
    (stands-both bytes at _ _ width (bytes_of-length width _) high low)

-- ── joined ───────────────────────────────────────────────────────────────────────────────────────
-- pieces of one length stand one after the other as each of them stands in its place
module _ (bytes : List ℕ) (at c : ℕ) (f : ℕ → List ℕ) (long : (i : ℕ) → length (f i) ≡ c) where
  front_long : (n : ℕ) → length (joined n f) ≡ c * n
  front_long n = joined_length n c f (λ i l. long i) ∙ mul_comm n c

  pub joined-stands : (n : ℕ) → ((i : ℕ) → i < n → Stands bytes (at + c * i) (f i)) → Stands bytes at (joined n f)
  unfolding joined
  joined-stands zero each = stands-none bytes at
  joined-stands (suc n) each =
      let front = joined-stands n (λ i l. each i (omega arith)) in
      stands-both bytes at (joined n f) (f n) (c * n) (front_long n) front (each n (omega arith))

  pub joined-each : (n : ℕ) → Stands bytes at (joined n f) → (i : ℕ) → i < n → Stands bytes (at + c * i) (f i)
  unfolding joined
  joined-each zero h i l = absurd (not-suc-le-zero l)
  joined-each (suc n) h i l = elim (ℕ_discrete i n) [
    | yes e ↦ rw e (stands-next bytes at (joined n f) (f n) (c * n) (front_long n) h)
    | no d ↦ joined-each n (stands-first bytes at (joined n f) (f n) (c * n) (front_long n) h) i (omega arith)
  ]

-- ── written ──────────────────────────────────────────────────────────────────────────────────────
-- Fields, each a width and a number, written one after the other behind a piece; and where they end if it ends at k.
abbrev written : List ℕ → List (ℕ × ℕ) → List ℕ
written x [] = x
written x (f ∷ fs) = written (x ++ bytes_of f.0 f.1) fs

abbrev ending : ℕ → List (ℕ × ℕ) → ℕ
ending k [] = k
ending k (f ∷ fs) = ending (k + f.0) fs

-- Each number fits its width; each is what the bytes from `at` on hold in its place.
abbrev Fit : List (ℕ × ℕ) → Type 0
Fit [] = Unit {0}
Fit (f ∷ fs) = (f.1 < 256 ^ f.0) × Fit fs

abbrev Held : List ℕ → ℕ → ℕ → List (ℕ × ℕ) → Type 0
Held bytes at k [] = Unit {0}
Held bytes at k (f ∷ fs) = (field bytes (at + k) f.0 ≡ f.1) × Held bytes at (k + f.0) fs

next-length : (x : List ℕ) (k : ℕ) → length x ≡ k → (width n : ℕ) → length (x ++ bytes_of width n) ≡ k + width
next-length x k long width n = simp (length-append, bytes_of-length, long)

written-length : (x : List ℕ) (k : ℕ) → length x ≡ k → (fs : List (ℕ × ℕ)) → length (written x fs) ≡ ending k fs
written-length x k long [] = long
written-length x k long (f ∷ fs) = written-length (x ++ bytes_of f.0 f.1) (k + f.0) (next-length x k long f.0 f.1) fs

ending-le : (k : ℕ) (fs : List (ℕ × ℕ)) → k ≤ ending k fs
ending-le k [] = omega arith
ending-le k (f ∷ fs) = let later = ending-le (k + f.0) fs in omega arith

module _ (bytes : List ℕ) (at : ℕ) where
  -- where fields that fit stand, their numbers are held
  written_held : (x : List ℕ) (k : ℕ) → length x ≡ k → (fs : List (ℕ × ℕ)) → Fit fs → Stands bytes at (written x fs)
      → Stands bytes at x × Held bytes at k fs
  written_held x k long [] fit h = (h, tt)
  written_held x k long (f ∷ fs) fit h =
      let piece = bytes_of f.0 f.1 in
      let later = written_held (x ++ piece) (k + f.0) (next-length x k long f.0 f.1) fs fit.1 h in
      let here = bytes_of-read bytes (at + k) f.0 f.1 fit.0 (stands-next bytes at x piece k long later.0) in
      (stands-first bytes at x piece k long later.0, (here, later.1))

  -- where numbers are held, their fields stand
  written_stands : AreBytes bytes → (x : List ℕ) (k : ℕ) → length x ≡ k → (fs : List (ℕ × ℕ)) → at + ending k fs ≤ length bytes
      → Stands bytes at x → Held bytes at k fs → Stands bytes at (written x fs)
  written_stands each x k long [] l first held = first
  written_stands each x k long (f ∷ fs) l first held =
      let within = ending-le (k + f.0) fs in
      let here = bytes_of-stands bytes each (at + k) f.0 (omega arith) in
      let both = stands-both bytes at x _ k long first here in
      let long' = next-length x k long f.0 f.1 in
      written_stands each (x ++ bytes_of f.0 f.1) (k + f.0) long' fs l (rw held.0 at both) held.1

-- ── header_bytes ──────────────────────────────────────────────────────────────────────────────────
-- What stands in the field of F: F, and in a field of no bytes nothing.
abbrev feeds_put : ℕ → Plan → ℕ
feeds_put width p = cond (eqb width 0) 0 p.feeds

feeds_put-bytes : (width : ℕ) (p : Plan) → bytes_of width p.feeds ≡ bytes_of width (feeds_put width p)
unfolding bytes_of
feeds_put-bytes zero p = refl
feeds_put-bytes (suc width) p = rw (pos-eqb (suc width) (omega arith))

-- it fits, and it is what is read there, F being R where nothing is
module _ (bytes : List ℕ) (p : Plan) where
  feeds_put-fit : (width : ℕ) → p.feeds < 256 → feeds_put width p < 256 ^ width
  feeds_put-fit zero l = omega arith
  feeds_put-fit (suc width) l = rw (pos-eqb (suc width) (omega arith)) (field-narrow p.feeds 1 (suc width) (omega arith) (omega arith))

  feeds_put-read : (width : ℕ) → racks_in bytes ≡ p.racks → (width ≡ 0 → p.feeds ≡ p.racks) → field bytes 7 width ≡ feeds_put width p
      → cond (eqb width 0) (racks_in bytes) (field bytes 7 width) ≡ p.feeds
  feeds_put-read zero racks same held = racks ∙ sym (same refl)
  feeds_put-read (suc width) racks same held =
      let other = pos-eqb (suc width) (omega arith) in
      rw other (rw other at held)

  feeds_put-held : (width : ℕ) → cond (eqb width 0) (racks_in bytes) (field bytes 7 width) ≡ p.feeds → field bytes 7 width ≡ feeds_put width p
  unfolding field
  feeds_put-held zero is = refl
  feeds_put-held (suc width) is =
      let other = pos-eqb (suc width) (omega arith) in
      rw other (rw other at is)

-- The header's fields behind the mark, and that the bytes hold them.
abbrev header_fields : Plan → List (ℕ × ℕ)
header_fields p =
    let width = (format_of p.version).feeds_width in
    (2, p.version) ∷ (1, p.racks) ∷ (1, p.rack_size) ∷ (width, feeds_put width p) ∷ (2, p.capacity) ∷ (4, p.budget) ∷ (2, block_count p) ∷ []

pub record HeaderIs (bytes : List ℕ) (p : Plan) : Type 0 where
  pub mark-is : mark_in bytes ≡ mark
  pub version-is : version_in bytes ≡ p.version
  pub racks-is : racks_in bytes ≡ p.racks
  pub size_is : rack_size_in bytes ≡ p.rack_size
  pub feeds-is : feeds_in bytes ≡ p.feeds
  pub capacity-is : capacity_in bytes ≡ p.capacity
  pub budget-is : budget_in bytes ≡ p.budget
  pub count-is : block_count_in bytes ≡ block_count p

-- the header is these fields
header_bytes-written : (p : Plan) → header_bytes p ≡ written (bytes_of 3 mark) (header_fields p)
unfolding header_bytes
header_bytes-written p = rw (feeds_put-bytes (format_of p.version).feeds_width p)

pub header_bytes-length : (p : Plan) → length (header_bytes p) ≡ header_length (format_of p.version)
header_bytes-length p =
    rw (header_bytes-written p)
    (let long = written-length (bytes_of 3 mark) 3 (bytes_of-length 3 mark) (header_fields p) in omega arith)

-- a plan's numbers fit the header
header-fit : (p : Plan) → Shaped p → PlanFits p → Fit (header_fields p)
header-fit p shaped fits =
    let racks : p.racks * 1 ≤ machines p = mul-le-mul_left p.racks shaped.size-pos in
    let size : 1 * p.rack_size ≤ machines p = mul-le-mul_right p.rack_size shaped.racks-pos in
    let capacity = shaped.capacity-max in
    let count = shaped.blocks-max in
    let feeds = feeds_put-fit [] p (format_of p.version).feeds_width (omega (arith, domains-le p shaped)) in
    (omega (arith, fits.version-max), (omega arith, (omega arith, (feeds, (omega arith, (fits.budget-fits, (omega arith, tt)))))))

-- where the header of such a plan stands, its numbers are read; the header of numbers that are read stands where they were read
pub header_bytes-read : (bytes : List ℕ) (p : Plan) → Shaped p → PlanFits p → Stands bytes 0 (header_bytes p) → HeaderIs bytes p
header_bytes-read bytes p shaped fits h =
    let parts =
    written_held bytes 0 (bytes_of 3 mark) 3 (bytes_of-length 3 mark) (header_fields p) (header-fit p shaped fits) (rw (header_bytes-written p) at h)
    in
    let held = parts.1 in
    let later = held.1.1.1.1 in
    let width = (format_of p.version).feeds_width in
    record {
      mark-is = bytes_of-read bytes 0 3 mark (lit< tt) parts.0;
      version-is = held.0;
      racks-is = held.1.0;
      size_is = held.1.1.0;
      feeds-is = rw held.0 (feeds_put-read bytes p width held.1.0 fits.feeds-racks held.1.1.1.0);
      capacity-is = rw held.0 (ap (λ (at : ℕ). field bytes at 2) (omega arith) ∙ later.0);
      budget-is = rw held.0 (ap (λ (at : ℕ). field bytes at 4) (omega arith) ∙ later.1.0);
      count-is = rw held.0 (ap (λ (at : ℕ). field bytes at 2) (omega arith) ∙ later.1.1.0);
    }

pub header_bytes-stands : (bytes : List ℕ) → AreBytes bytes → (p : Plan) → header_length (format_of p.version) ≤ length bytes
    → HeaderIs bytes p → Stands bytes 0 (header_bytes p)
header_bytes-stands bytes each p l is =
    let first = rw is.mark-is at (bytes_of-stands bytes each 0 3 (omega arith)) in
    let width = (format_of p.version).feeds_width in
    let feeds = feeds_put-held bytes p width (rw is.version-is at is.feeds-is) in
    let capacity = rw is.version-is at is.capacity-is in
    let budget = rw is.version-is at is.budget-is in
    let count = rw is.version-is at is.count-is in
    rw (header_bytes-written p)
    (written_stands bytes 0 each (bytes_of 3 mark) 3 (bytes_of-length 3 mark) (header_fields p) (omega arith) first (
      is.version-is,
      (is.racks-is, (is.size_is, (feeds, (moved 2 (omega arith) capacity, (moved 4 (omega arith) budget, (moved 2 (omega arith) count, tt)))))),
    ))
  where
    -- the same place, written in another way
    moved : {at other n : ℕ} (width : ℕ) → at ≡ other → field bytes other width ≡ n → field bytes at width ≡ n
    moved width e held = ap (λ (k : ℕ). field bytes k width) e ∙ held

-- ── record_bytes ──────────────────────────────────────────────────────────────────────────────────
-- The record's fields behind the popularity.
abbrev record_fields : Format → Block → List (ℕ × ℕ)
record_fields f b =
    (f.min_replicas_width, b.min_replicas) ∷ (f.min_domains_width, b.min_domains) ∷ (f.pair_byte_width, b.pair_byte) ∷ []

pub record_bytes-length : (f : Format) (b : Block) → length (record_bytes f b) ≡ record_length f
unfolding record_bytes
record_bytes-length f b =
    let width = f.popularity_width in
    written-length (bytes_of width b.popularity) width (bytes_of-length width b.popularity) (record_fields f b)

-- where a block's record stands, that block is read; the record of the block that is read stands where it was read, and it fits
module _ (f : Format) (bytes : List ℕ) (at : ℕ) where
  pub record_bytes-read : (b : Block) → BlockFits f b → Stands bytes at (record_bytes f b) → block_at f bytes at ≡ b
  unfolding record_bytes
  record_bytes-read b fits h =
      let width = f.popularity_width in
      let parts =
      written_held bytes at (bytes_of width b.popularity) width (bytes_of-length width b.popularity) (record_fields f b)
      (fits.replicas-fits, (fits.domains-fits, (fits.pair_fits, tt))) h
      in
      let popularity = bytes_of-read bytes at width b.popularity fits.popularity-fits parts.0 in
      let held = parts.1 in
      rw (popularity, held.0, held.1.0, held.1.1.0)

  pub record_bytes-stands : AreBytes bytes → at + record_length f ≤ length bytes → Stands bytes at (record_bytes f (block_at f bytes at))
  unfolding record_bytes
  record_bytes-stands each l =
      let width = f.popularity_width in
      let b = block_at f bytes at in
      written_stands bytes at each (bytes_of width b.popularity) width (bytes_of-length width b.popularity) (record_fields f b) l
      (bytes_of-stands bytes each at width (omega arith)) (refl, (refl, (refl, tt)))

  pub record_bytes-fits : AreBytes bytes → BlockFits f (block_at f bytes at)
  record_bytes-fits each =
      record {
        popularity-fits = field_bound bytes each at f.popularity_width;
        replicas-fits = field_bound bytes each (at + min_replicas_at f) f.min_replicas_width;
        domains-fits = field_bound bytes each (at + min_domains_at f) f.min_domains_width;
        pair_fits = field_bound bytes each (at + pair_byte_at f) f.pair_byte_width;
      }

-- every layout's laws
pub layouts : Layouts
unfolding Stands
layouts f =
    record {
      length-is = record_bytes-length f;
      reads-written = λ before later b fits.
          record_bytes-read f (before ++ record_bytes f b ++ later) (length before) b fits (stands-between before (record_bytes f b) later);
      writes-read = λ bytes each at l. rw (record_bytes-length f (block_at f bytes at)) at (sym (record_bytes-stands f bytes at each l));
      read_fits = λ bytes each at. record_bytes-fits f bytes at each;
    }
