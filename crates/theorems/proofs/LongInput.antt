-- An input longer than any plan is refused by its header, or for its length; its first bytes alone are, too.
-- Assumes nothing.
use mathlib.Core.Path.{◌≡◌, refl, ap, sym, ◌∙◌}
use mathlib.Core.Bool.{not, ◌||◌}
use mathlib.Core.List.{List}
use Prim.Native.Nat.{ℕ, ◌+◌, ◌*◌, ◌%◌, ◌≤◌}
use native.Mathlib.Decide.{dec_lt}
use native.Mathlib.Omega.{arith}
use borrow.Author.Tests.{lt-ltb, le-ltb, ne_eqb}
use lib.Dec.{ltb, eqb, lit≤}
use lib.ListN.{length, take}
use lib.Seq.{length-take-le}
use Rattle.model.specs.Plan.{field, mark_in, version_in, racks_in, rack_size_in, feeds_in, capacity_in, block_count_in, latest_version, format_of, format_in, record_at, plan_in}
use Rattle.model.specs.Refusal.{refuse_if, mark, max_machines, max_capacity, max_blocks, check1, check2, check3, check4, check22, check5, check6, check7, plan_refusal, refusal, Verdict}
use Rattle.model.specs.Listing.{printed, printed_of, input_room}
use Rattle.model.specs.Conversion.{converted_version, convert_refusal, convert_verdict}
use Rattle.theory.proofs.Plan.{field-take, format_of-feeds, format_of-longest}
use Rattle.theory.proofs.Refusal.{refuse_if-all, check6-long, judge-refused}
use Rattle.theory.proofs.Conversion.{convert_verdict-refused}
use Rattle.theorems.specs.Listing.{LongInput}

-- the room is more than any header
room-long : 16 ≤ input_room
unfolding input_room format_of
room-long = lit≤ tt

-- the refusal of a long input, from its header alone
long_refusal : ℕ → ℕ → ℕ → ℕ → ℕ → ℕ → ℕ → ℕ
long_refusal found version racks size feeds capacity count =
    check2 found
    (check3 latest_version version
    (check4 racks size (check22 racks feeds (check5 capacity (refuse_if (ltb max_blocks count) 6 7)))))

long-code : (found version racks size feeds capacity count : ℕ) → 1 ≤ long_refusal found version racks size feeds capacity count
unfolding long_refusal check2 check3 check4 check22 check5
long-code found version racks size feeds capacity count =
    refuse_if-all (λ code. 1 ≤ code) (not (eqb found mark)) 2 _ (omega arith)
    (refuse_if-all (λ code. 1 ≤ code) (eqb version 0 || ltb latest_version version) 3 _ (omega arith)
    (refuse_if-all (λ code. 1 ≤ code) (eqb racks 0 || eqb size 0 || ltb max_machines (racks * size)) 4 _ (omega arith)
    (refuse_if-all (λ code. 1 ≤ code) (eqb feeds 0 || not (eqb (racks % feeds) 0)) 22 _ (omega arith)
    (refuse_if-all (λ code. 1 ≤ code) (eqb capacity 0 || ltb max_capacity capacity) 5 _ (omega arith)
    (refuse_if-all (λ code. 1 ≤ code) (ltb max_blocks count) 6 7 (omega arith) (omega arith))))))

-- its header is whole, and past check 6, check 7 refuses
past-six : (version size count later : ℕ) → input_room ≤ size
    → check6 (format_of version) size count (check7 (format_of version) size count later) ≡ refuse_if (ltb max_blocks count) 6 7
unfolding check7 input_room
past-six version size count later l =
    let f = format_of version in
    let whole = format_of-longest version 0 max_blocks (omega arith) in
    check6-long f size count _ (omega arith) ∙ elim (dec_lt max_blocks count) [
      | yes m ↦ rw (lt-ltb max_blocks count m)
      | no m ↦
          let longest = format_of-longest version count max_blocks (omega arith) in
          rw (le-ltb max_blocks count (omega arith), ne_eqb size (record_at f count) (λ e. omega arith))
    ]

long-refusal : (bytes : List ℕ) → input_room ≤ length bytes
    → refusal bytes
    ≡ long_refusal (mark_in bytes) (version_in bytes) (racks_in bytes) (rack_size_in bytes) (feeds_in bytes) (capacity_in bytes) (block_count_in bytes)
unfolding refusal check1 long_refusal
long-refusal bytes l =
    rw (le-ltb (length bytes) 15 (omega (arith, room-long)), past-six (version_in bytes) (length bytes) (block_count_in bytes) (plan_refusal (plan_in bytes)) l)

-- the header's fields are in the first bytes
module _ (bytes : List ℕ) where
  first : List ℕ
  first = take input_room bytes

  same-field : (at width : ℕ) → at + width ≤ 16 → field first at width ≡ field bytes at width
  unfolding first
  same-field at width l = field-take input_room bytes at width (omega (arith, room-long))

  same_format : format_in first ≡ format_in bytes
  same_format = ap format_of (same-field 3 2 (omega arith))

  -- a field that F shifts
  same-shifted : (at width : ℕ) → at + width ≤ 15
      → field first (at + (format_in first).feeds_width) width ≡ field bytes (at + (format_in bytes).feeds_width) width
  same-shifted at width l =
      rw same_format (same-field (at + (format_in bytes).feeds_width) width (omega (arith, format_of-feeds (version_in bytes))))

  same-feeds : feeds_in first ≡ feeds_in bytes
  same-feeds =
      rw (same_format, same-field 5 1 (omega arith), same-field 7 (format_in bytes).feeds_width (omega (arith, format_of-feeds (version_in bytes))))

same-refusal : (bytes : List ℕ) → input_room ≤ length bytes → refusal (take input_room bytes) ≡ refusal bytes
unfolding first
same-refusal bytes l =
    let sized : length (take input_room bytes) ≡ input_room = length-take-le input_room bytes l in
    long-refusal (take input_room bytes) (omega arith)
    ∙ (rw (
      same-feeds bytes,
      same-shifted bytes 7 2 (omega arith),
      same-shifted bytes 13 2 (omega arith),
      same-field bytes 0 3 (omega arith),
      same-field bytes 3 2 (omega arith),
      same-field bytes 5 1 (omega arith),
      same-field bytes 6 1 (omega arith),
    ))
    ∙ sym (long-refusal bytes l)

-- a long input is refused
long-some : (bytes : List ℕ) → input_room ≤ length bytes → 1 ≤ refusal bytes
long-some bytes l = rw (long-refusal bytes l) (long-code _ _ _ _ _ _ _)

pub long-input : LongInput
unfolding printed
long-input bytes l limit =
    let code = refusal bytes in
    let some = long-some bytes l in
    ap (λ (v : Verdict). printed_of v limit)
    (judge-refused (take input_room bytes) code (same-refusal bytes l) some ∙ sym (judge-refused bytes code refl some))

-- the converter's rows before the plan's own go by the header, too
convert-code : (found version later : ℕ) → 1 ≤ later → 1 ≤ check2 found (check3 converted_version version later)
unfolding check2 check3
convert-code found version later some =
    refuse_if-all (λ code. 1 ≤ code) (not (eqb found mark)) 2 _ (omega arith)
    (refuse_if-all (λ code. 1 ≤ code) (eqb version 0 || ltb converted_version version) 3 later (omega arith) some)

convert-refusal : (bytes : List ℕ) → input_room ≤ length bytes
    → convert_refusal bytes ≡ check2 (mark_in bytes) (check3 converted_version (version_in bytes) (refusal bytes))
unfolding convert_refusal check1
convert-refusal bytes l = rw (le-ltb (length bytes) 15 (omega (arith, room-long)))

pub long-conversion : (bytes : List ℕ) → input_room ≤ length bytes → convert_verdict (take input_room bytes) ≡ convert_verdict bytes
unfolding first
long-conversion bytes l =
    let sized : length (take input_room bytes) ≡ input_room = length-take-le input_room bytes l in
    let codes : convert_refusal (take input_room bytes) ≡ convert_refusal bytes =
    convert-refusal (take input_room bytes) (omega arith)
    ∙ (rw (same-field bytes 0 3 (omega arith), same-field bytes 3 2 (omega arith), same-refusal bytes l))
    ∙ sym (convert-refusal bytes l) in
    let some : 1 ≤ convert_refusal bytes = rw (convert-refusal bytes l) (convert-code _ _ _ (long-some bytes l)) in
    convert_verdict-refused (take input_room bytes) (convert_refusal bytes) codes some ∙ sym (convert_verdict-refused bytes (convert_refusal bytes) refl some)
