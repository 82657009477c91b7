-- Laws of the failure domains, collected.
-- Assumes nothing.
use mathlib.Core.Path.{◌≡◌, refl, ap, ◌∙◌}
use mathlib.Core.Bool.{Bool, true, false, not, ◌&&◌, ◌||◌}
use mathlib.Core.List.{List}
use mathlib.Core.Logic.{⊎_elim}
use Prim.Native.Nat.{ℕ, suc, ◌*◌, ◌%◌, ◌<◌, ◌≤◌}
use native.Mathlib.Nat.{mod_self, mod-eq_of_lt, div-lt_iff_lt-mul}
use native.Mathlib.Decide.{dec_lt}
use native.Mathlib.Omega.{arith}
use borrow.Author.Tests.{lt-ltb}
use lib.Dec.{leb, ltb, eqb}
use lib.ListN.{length}
use Rattle.order.specs.Sum.{delta}
use Rattle.order.proofs.Sums.{sum-cong, sum_ones}
use Rattle.model.specs.Plan.{Plan, rack_of, domain, machines, common_length, latest_version, mark_in, version_in, racks_in, rack_size_in, feeds_in, capacity_in, block_count_in, format_of, format_in, header_length, record_at, plan_in}
use Rattle.model.specs.Refusal.{refuse_if, mark, max_machines, max_capacity, max_blocks, check1, check2, check3, check4, check5, check6, check7, refusal}
use Rattle.theory.specs.Domains.{Domains, EarlyFeeds}
use Rattle.theory.proofs.Plan.{domain-lt, domain-rack, member-sum}
use Rattle.theory.proofs.PlacementFirst.{position-domain}
use Rattle.theory.proofs.Refusal.{check4-zero, check22-passed, plan_refusal-cases}

pub domains : Domains
domains p shaped =
    record {
      inside = domain-lt p shaped;
      racks-whole = domain-rack p;
      equal = λ d l.
          sum-cong (machines p) (λ m. delta (domain p m) d) (λ m. delta (domain p m) d * 1) (λ m h. omega arith)
          ∙ member-sum p shaped d (λ m. 1) l
          ∙ sum_ones _;
      consecutive = position-domain p shaped;
      racks = λ same m l.
          ap (λ (n : ℕ). rack_of p m % n) same ∙ mod-eq_of_lt ((div-lt_iff_lt-mul shaped.size-pos).1 l);
    }

-- ── EarlyFeeds ───────────────────────────────────────────────────────────────────────────────────
feeds_in-early : (bytes : List ℕ) → version_in bytes < 4 → feeds_in bytes ≡ racks_in bytes
unfolding format_of
feeds_in-early bytes l = rw (lt-ltb (version_in bytes) 4 l)

-- a check of another row that gives 22 has a false condition, and the later rows give it
other_row : (t : Bool) (row later : ℕ) → row < 21 → refuse_if t (suc row) later ≡ 22 → (refuse_if t (suc row) 0 ≡ 0) × (later ≡ 22)
other_row true row later l e = absurd (omega arith)
other_row false row later l e = (refl, e)

-- where F is R, a plan that reaches row 22 passes it, and no later row has its number
row22-early : (bytes : List ℕ) → version_in bytes < 4 → refusal bytes ≡ 22 → ⊥
unfolding refusal check1 check2 check3 check4 check5 check6 check7
row22-early bytes early e =
    let r = racks_in bytes in
    let s = rack_size_in bytes in
    let b = block_count_in bytes in
    let z1 = other_row (ltb (length bytes) common_length) 0 _ (omega arith) e in
    let z2 = other_row (not (eqb (mark_in bytes) mark)) 1 _ (omega arith) z1.1 in
    let z3 = other_row (eqb (version_in bytes) 0 || ltb latest_version (version_in bytes)) 2 _ (omega arith) z2.1 in
    let z4 = other_row (eqb r 0 || eqb s 0 || ltb max_machines (r * s)) 3 _ (omega arith) z3.1 in
    let some = (check4-zero r s 0 z4.0).0 in
    let passed = rw (feeds_in-early bytes early, check22-passed r r _ some (mod_self r)) at z4.1 in
    let z5 = other_row (eqb (capacity_in bytes) 0 || ltb max_capacity (capacity_in bytes)) 4 _ (omega arith) passed in
    let z6 = other_row (leb (header_length (format_in bytes)) (length bytes) && ltb max_blocks b) 5 _ (omega arith) z5.1 in
    let z7 = other_row (not (eqb (length bytes) (record_at (format_in bytes) b))) 6 _ (omega arith) z6.1 in
    ⊎_elim (λ l. omega (arith, z7.1, l)) (λ e. omega (arith, z7.1, e)) (plan_refusal-cases (plan_in bytes))

pub early-feeds : EarlyFeeds
early-feeds bytes = record { are-racks = feeds_in-early bytes; row22-later = later }
  where
    later : refusal bytes ≡ 22 → 4 ≤ version_in bytes
    later e = elim (dec_lt (version_in bytes) 4) [
      | yes early ↦ absurd (row22-early bytes early e)
      | no l ↦ omega arith
    ]
