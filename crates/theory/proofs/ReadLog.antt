-- Laws of document 02, U2.
-- Assumes nothing.
use mathlib.Core.Path.{◌≡◌, refl, ap, ◌∙◌, subst}
use mathlib.Core.Bool.{Bool, true, false, not}
use mathlib.Core.Option.{Option, none, some, none-ne-some, some-injective}
use mathlib.Core.List.{List, [], ◌∷◌, ◌++◌, append_assoc}
use Prim.Native.Nat.{ℕ, ◌+◌, ◌-◌, ◌%◌, ◌<◌, ◌≤◌, min}
use native.Mathlib.Omega.{arith}
use borrow.Author.Tests.{ltb-true}
use lib.Dec.{ltb, lit≤}
use lib.ListN.{length, take, drop, replicate, length-append, length-replicate, length-drop}
use lib.Seq.{take_at, drop_at}
use Rattle.order.proofs.Booleans.{no-contradiction}
use Rattle.model.specs.declared.Entry.{Entry}
use Rattle.model.specs.Plan.{Plan, block_count}
use Rattle.model.specs.ReadLog.{no_entry, tick_bound, age, usable, entries_in, current, last_tick, gap_bound, check19, check20, check21, read_refusal, relisted}
use Rattle.theory.specs.ReadLog.{AgeLaws}
use Rattle.theory.proofs.Refusal.{refuse_if-zero, refuse_if-all}

-- ── age ────────────────────────────────────────────────────────────────────────────────────────────────────────────────

-- The age is the number that leads from the tick to now, modulo 2 to the power 32.
pub age-unique : (now tick r : ℕ) → now < tick_bound → tick < tick_bound → r < tick_bound → (r + tick) % tick_bound ≡ now → r ≡ age now tick
unfolding age
age-unique now tick r hn ht hr e = omega (arith, e)

pub age-leads : (now tick : ℕ) → now < tick_bound → tick < tick_bound → (age now tick + tick) % tick_bound ≡ now
unfolding age
age-leads now tick hn ht = omega arith

pub age-bound : (now tick : ℕ) → age now tick < tick_bound
unfolding age
age-bound now tick = omega arith

-- A tick of now is 0 old, and ages add up while their sum is below 2 to the power 32.
pub age-self : (now : ℕ) → now < tick_bound → age now now ≡ 0
unfolding age
age-self now h = omega arith

pub age-adds : (first second third : ℕ) → first < tick_bound → second < tick_bound → third < tick_bound
    → age second first + age third second < tick_bound → age third first ≡ age second first + age third second
unfolding age
age-adds first second third h1 h2 h3 l = omega (arith, l)

-- true times are their ticks and a multiple of 2 to the power 32
age-modular : (since now : ℕ) → since ≤ now → age (now % tick_bound) (since % tick_bound) ≡ (now - since) % tick_bound
unfolding age
age-modular since now l = omega arith

pub age-laws : AgeLaws
age-laws =
    record {
      modular = age-modular;
      bound = age-bound;
      leads = age-leads;
      unique = age-unique;
      adds = age-adds;
      successive = λ first second third h1 h2 h3 near next. age-adds first second third h1 h2 h3 (omega arith);
    }

-- ── read_refusal ────────────────────────────────────────────────────────────────────────────────────────────────────────

pub check19-le : (block blocks later : ℕ) → later ≤ 21 → check19 block blocks later ≤ 21
unfolding check19
check19-le block blocks later = refuse_if-all (λ n. n ≤ 21) (not (ltb block blocks)) 19 later (lit≤ tt)

check20-le : (tick : ℕ) (last : Option ℕ) (later : ℕ) → later ≤ 21 → check20 tick last later ≤ 21
unfolding check20
check20-le tick none later l = l
check20-le tick (some last) later l = refuse_if-all (λ n. n ≤ 21) (not (ltb (age tick last) gap_bound)) 20 later (lit≤ tt) l

pub read_refusal-le : (block tick : ℕ) (list : List Entry) (count : ℕ) (p : Plan) → read_refusal block tick list count p ≤ 21
unfolding read_refusal check21
read_refusal-le block tick list count p =
    check19-le block (block_count p) _
    (check20-le tick (last_tick (entries_in list count)) _
    (refuse_if-all (λ n. n ≤ 21) (not (ltb (length (current tick (entries_in list count))) (usable (length list)))) 21 0 (lit≤ tt) (lit≤ tt)))

-- What an accepted read has passed: checks 19, 20 and 21.
pub record ReadPassed (block tick : ℕ) (list : List Entry) (count : ℕ) (p : Plan) : Type 0 where
  pub below : block < block_count p
  pub close : (last : ℕ) → last_tick (entries_in list count) ≡ some last → age tick last < gap_bound
  pub room : length (current tick (entries_in list count)) < usable (length list)

not-less : (a b : ℕ) → not (ltb a b) ≡ false → a < b
not-less a b e = go (ltb a b) refl e
  where
    go : (t : Bool) → ltb a b ≡ t → not t ≡ false → a < b
    go true is e = ltb-true a b is
    go false is e = absurd (no-contradiction e)

check20-zero : (tick : ℕ) (last : Option ℕ) (later : ℕ) → check20 tick last later ≡ 0
    → ((t : ℕ) → last ≡ some t → age tick t < gap_bound) × (later ≡ 0)
unfolding check20
check20-zero tick none later e = (λ t is. absurd (none-ne-some t is), e)
check20-zero tick (some last) later e =
    let z = refuse_if-zero (not (ltb (age tick last) gap_bound)) 19 later e in
    (λ t is. subst (λ (n : ℕ). age tick n < gap_bound) (some-injective last t is) (not-less (age tick last) gap_bound z.0), z.1)

pub read_refusal-zero : (block tick : ℕ) (list : List Entry) (count : ℕ) (p : Plan) → read_refusal block tick list count p ≡ 0
    → ReadPassed block tick list count p
unfolding read_refusal check19 check21
read_refusal-zero block tick list count p e =
    let z19 = refuse_if-zero (not (ltb block (block_count p))) 18 _ e in
    let z20 = check20-zero tick (last_tick (entries_in list count)) _ z19.1 in
    let z21 = refuse_if-zero (not (ltb (length (current tick (entries_in list count))) (usable (length list)))) 20 0 z20.1 in
    record {
      below = not-less block (block_count p) z19.0;
      close = z20.0;
      room = not-less (length (current tick (entries_in list count))) (usable (length list)) z21.0;
    }

-- ── relisted ───────────────────────────────────────────────────────────────────────────────────────────────────────────
module _ (entries list : List Entry) (room : length entries ≤ usable (length list)) where
  relisted-split : relisted entries list
      ≡ entries ++ (replicate (usable (length list) - length entries) no_entry ++ drop (usable (length list)) list)
  unfolding relisted
  relisted-split = append_assoc entries (replicate (usable (length list) - length entries) no_entry) (drop (usable (length list)) list)

  front : length (entries ++ replicate (usable (length list) - length entries) no_entry) ≡ usable (length list)
  front =
      let sum = length-append entries (replicate (usable (length list) - length entries) no_entry) in
      let zeros = length-replicate (usable (length list) - length entries) no_entry in
      omega (arith, sum, zeros)

  pub relisted-length : length (relisted entries list) ≡ length list
  unfolding relisted
  relisted-length =
      let sum = length-append (entries ++ replicate (usable (length list) - length entries) no_entry) (drop (usable (length list)) list) in
      let rest = length-drop (usable (length list)) list in
      omega (arith, sum, front, rest)

  -- the records past the usable length stay
  pub relisted-beyond : drop (usable (length list)) (relisted entries list) ≡ drop (usable (length list)) list
  unfolding relisted
  relisted-beyond =
      drop_at (entries ++ replicate (usable (length list) - length entries) no_entry) (drop (usable (length list)) list) (usable (length list)) front

  -- and the entries are found again
  pub relisted-entries : entries_in (relisted entries list) (length entries) ≡ entries
  relisted-entries =
      let count : min (length entries) (usable (length (relisted entries list))) ≡ length entries = rw relisted-length (omega arith) in
      ap (λ (n : ℕ). take n (relisted entries list)) count
      ∙ ap (λ (l : List Entry). take (length entries) l) relisted-split
      ∙ take_at entries _ (length entries) refl
