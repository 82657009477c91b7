-- The converter takes the accepted plans of versions 1 and 2, and what it writes reads as the same plan: a written plan is read as what
-- was written (`reads-written`), and the fields of an older version fit the wider records.
-- Assumes nothing.
use mathlib.Core.Path.{◌≡◌, refl, ap, sym, subst, ◌∙◌}
use mathlib.Core.Bool.{not, ◌||◌}
use mathlib.Core.List.{List, []}
use Prim.Native.Nat.{ℕ, ◌<◌, ◌≤◌}
use native.Mathlib.Nat.{le_trans}
use native.Mathlib.Omega.{arith}
use borrow.Author.Tests.{lt-ltb, le-ltb}
use lib.Dec.{ltb, eqb, lit<}
use lib.ListN.{length}
use Rattle.order.specs.Table.{table, joined}
use Rattle.order.proofs.Booleans.{in-range, cond-all}
use Rattle.model.specs.Plan.{Block, Plan, machines, places, block_count, block_of, common_length, latest_version, min_total, max_replicas, is_paired, pairs_back, pairs_next, field, mark_in, version_in, format_of, block_in, plan_in}
use Rattle.model.specs.Refusal.{mark, max_blocks, check1, check2, check3, accepted, judge}
use Rattle.model.specs.Calls.{refuse, on_plan}
use Rattle.model.specs.Listing.{input_room}
use Rattle.model.specs.Writing.{bytes_of, header_bytes, record_bytes, plan_bytes}
use Rattle.model.specs.Conversion.{converted_version, written_version, with_version, converted, convert_refusal, convert_verdict, convert_call}
use Rattle.theory.specs.Refusal.{Shaped, Valid}
use Rattle.theory.specs.Writing.{AreBytes, BlockFits, PlanFits}
use Rattle.theory.proofs.Plan.{max_replicas-later, max_replicas-most, upper-grows, field-narrow, format_of-longest}
use Rattle.theory.proofs.Refusal.{refuse_if-zero, check3-read, verdict-accepted, plan_refusal-shaped, check23-above, accepted-laws, accepted-mark, judge-accepted, judge-refused}
use Rattle.theory.proofs.WritingPlan.{refusal-written, reads-written, accepted-fits}
use Rattle.theory.proofs.Conversion.{converted-length, convert_verdict-judged, convert_call-short, convert_call-refused}
use Rattle.theorems.specs.Trials.{plan-H, plan-full}
use Rattle.theorems.specs.Versions.{verdict_with, SameUpper, Twin, Twins, LaterTwins}
use Rattle.theorems.specs.Conversion.{OldPlan, Converts, Conversions, wide-H, ConversionExamples}
use Rattle.theorems.proofs.Trials.{trials}
use Rattle.theorems.proofs.Versions.{comparable, same-answers}
use Rattle.theorems.proofs.LongInput.{long-conversion}

-- ── Takes ────────────────────────────────────────────────────────────────────────────────────────
module _ (bytes : List ℕ) (p : Plan) where
  taken : convert_verdict bytes ≡ accepted p → OldPlan bytes p
  unfolding convert_verdict convert_refusal check1 check2 check3 plan_in
  taken e =
      let z = verdict-accepted (convert_refusal bytes) (plan_in bytes) p e in
      let z1 = refuse_if-zero (ltb (length bytes) common_length) 0 _ z.0 in
      let z2 = refuse_if-zero (not (eqb (mark_in bytes) mark)) 1 _ z1.1 in
      let z3 = refuse_if-zero (eqb (version_in bytes) 0 || ltb converted_version (version_in bytes)) 2 _ z2.1 in
      let old = (in-range (version_in bytes) converted_version z3.0).1 in
      record { accepts = judge-accepted bytes z3.1 ∙ ap accepted z.1; version-max = subst (λ (q : Plan). q.version ≤ converted_version) z.1 old }

  takes : OldPlan bytes p → convert_verdict bytes ≡ accepted p
  unfolding check1 check2 format_of plan_in
  takes t =
      let laws = accepted-laws bytes p t.accepts in
      let passed = accepted-mark bytes p t.accepts in
      let version : p.version ≡ version_in bytes = ap (λ (q : Plan). q.version) laws.held in
      let known : version_in bytes ≤ converted_version = omega (arith, version, t.version-max) in
      convert_verdict-judged bytes 0
      (λ later.
      rw (
        le-ltb (length bytes) common_length (omega (arith, laws.length-is)),
        passed.0,
        check3-read converted_version (version_in bytes) later passed.1 known,
      ))
      refl
      ∙ t.accepts

-- ── Converts ─────────────────────────────────────────────────────────────────────────────────────
-- Versions from 3 on are written: they allow no fewer copies, and their records are no narrower.
record Later (version : ℕ) : Type 0 where
  wide : written_version ≤ version
  read : version ≤ latest_version

later-upper : (version old : ℕ) → Later version → max_replicas old ≤ max_replicas version
later-upper version old later = rw (← (max_replicas-later version later.wide)) (max_replicas-most old)

-- a plan keeps its shape in such a version, and is valid there with a budget that passes row 23
later-shaped : (version : ℕ) → Later version → (p : Plan) → Shaped p → Shaped (with_version version p)
unfolding is_paired pairs_back pairs_next
later-shaped version later p s =
    record {
      racks-pos = s.racks-pos;
      size-pos = s.size-pos;
      feeds-pos = s.feeds-pos;
      feeds-divide = s.feeds-divide;
      machines-max = s.machines-max;
      capacity-pos = s.capacity-pos;
      capacity-max = s.capacity-max;
      blocks-max = s.blocks-max;
      block = λ i l.
          let b = s.block i l in
          record { min-pos = b.min-pos; min-upper = le_trans b.min-upper (upper-grows p version (later-upper version p.version later) i); domains-pos = b.domains-pos; domains-min = b.domains-min; domains-all = b.domains-all };
      pair = λ i l.
          let q = s.pair i l in
          record {
            byte-max = q.byte-max;
            next-below = q.next-below;
            next-free = q.next-free;
            popularity-same = q.popularity-same;
            replicas-same = q.replicas-same;
            domains-same = q.domains-same;
          };
    }

later-valid : (version : ℕ) → Later version → (p : Plan) → (4 ≤ version → p.budget ≤ places p) → Valid p → Valid (with_version version p)
unfolding min_total
later-valid version later p usable v =
    record { shaped = later-shaped version later p v.shaped; budget-usable = usable; in-budget = v.in-budget; in-places = v.in-places }

-- any version's block fits its record
block-wider : (version old : ℕ) → Later version → (b : Block) → BlockFits (format_of old) b → BlockFits (format_of version) b
unfolding format_of
block-wider version old later b fits =
    record {
      popularity-fits =
          field-narrow _ _ _ fits.popularity-fits
          (rw (le-ltb version 3 later.wide) (cond-all (λ n. n ≤ 4) (ltb old 3) 3 4 (λ e. omega arith) (omega arith)));
      replicas-fits = fits.replicas-fits;
      domains-fits = fits.domains-fits;
      pair_fits =
          field-narrow _ _ _ fits.pair_fits
          (rw (le-ltb version 2 (le_trans (omega arith) later.wide)) (cond-all (λ n. n ≤ 1) (ltb old 2) 0 1 (λ e. omega arith) (omega arith)));
    }

later-fits : (version : ℕ) → Later version → (p : Plan) → PlanFits p → p.feeds ≡ p.racks → PlanFits (with_version version p)
later-fits version later p fits feeds =
    record {
      version-pos = le_trans (omega arith) later.wide;
      version-max = later.read;
      feeds-racks = λ none. feeds;
      budget-fits = fits.budget-fits;
      block-fits = λ i l. block-wider version p.version later (block_of p i) (fits.block-fits i l);
    }

-- an accepted plan with F = R is accepted in such a version, with a budget that passes row 23
later-accepted : (version : ℕ) → Later version → (bytes : List ℕ) → AreBytes bytes → (p : Plan) → judge bytes ≡ accepted p → p.feeds ≡ p.racks
    → (4 ≤ version → p.budget ≤ places p)
    → judge (plan_bytes (with_version version p)) ≡ accepted (with_version version p)
later-accepted version later bytes each p e feeds usable =
    reads-written (with_version version p) (later-valid version later p usable (accepted-laws bytes p e).valid) (later-fits version later p (accepted-fits bytes each p e) feeds)

three : Later 3
three = record { wide = omega arith; read = omega arith }

four : Later 4
four = record { wide = omega arith; read = omega arith }

-- before version 4, F is R
no-feeds : (version : ℕ) → version < 4 → (format_of version).feeds_width ≡ 0
unfolding format_of
no-feeds version l = rw (lt-ltb version 4 l)

converts : (bytes : List ℕ) → AreBytes bytes → (p : Plan) → convert_verdict bytes ≡ accepted p → Converts bytes p
unfolding converted input_room
converts bytes each p e =
    let taken-plan = taken bytes p e in
    let old = taken-plan.accepts in
    let laws = accepted-laws bytes p old in
    let valid = laws.valid in
    let feeds = (accepted-fits bytes each p old).feeds-racks (no-feeds p.version (omega (arith, taken-plan.version-max))) in
    let new : judge (converted p) ≡ accepted (with_version written_version p) = later-accepted written_version three bytes each p old feeds (λ late. absurd (omega arith)) in
    let longest = format_of-longest written_version (block_count p) max_blocks valid.shaped.blocks-max in
    record {
      accepts = new;
      same = λ few.
          same-answers written_version bytes (converted p) (new ∙ sym (ap (verdict_with written_version) old))
          (λ q accepts. comparable.few q.version written_version (machines q) (subst (λ (r : Plan). machines r ≤ 8) (laws.held ∙ sym (accepted-laws bytes q accepts).held) few));
      fits = omega (arith, converted-length p);
    }

-- ── Twins ────────────────────────────────────────────────────────────────────────────────────────
twin : (version : ℕ) (bytes : List ℕ) (p : Plan) → judge bytes ≡ accepted p
    → judge (plan_bytes (with_version version p)) ≡ accepted (with_version version p)
    → ((machines : ℕ) → SameUpper p.version version machines)
    → Twin version bytes p
twin version bytes p e new limit-same =
    record {
      accepts = new;
      same =
          same-answers version bytes (plan_bytes (with_version version p)) (new ∙ sym (ap (verdict_with version) e))
          (λ q accepts.
          let same : p ≡ q = (accepted-laws bytes p e).held ∙ sym (accepted-laws bytes q accepts).held in
          subst (λ (r : Plan). SameUpper r.version version (machines r)) same (limit-same (machines p)));
    }

pub twins : Twins
twins bytes each p e version feeds =
    twin 3 bytes p e (later-accepted 3 three bytes each p e feeds (λ late. absurd (omega arith)))
    (λ n. rw version (comparable.later n))

-- the rows before 23 turn no file of an accepted plan back in version 4
pub later-twins : LaterTwins
later-twins bytes each p e version =
    let valid = (accepted-laws bytes p e).valid in
    let feeds = (accepted-fits bytes each p e).feeds-racks (no-feeds p.version (omega arith)) in
    let shaped = later-shaped 4 four p valid.shaped in
    let fits = later-fits 4 four p (accepted-fits bytes each p e) feeds in
    record {
      usable = λ usable.
          twin 4 bytes p e (later-accepted 4 four bytes each p e feeds (λ late. usable)) (λ n. rw version (sym (comparable.later n)));
      unusable = λ above.
          judge-refused (plan_bytes (with_version 4 p)) 23
          (refusal-written (with_version 4 p) shaped fits
          ∙ plan_refusal-shaped (with_version 4 p) shaped
          ∙ check23-above 4 (places p) p.budget _ (omega arith) above)
          (omega arith);
    }

pub conversions : Conversions
conversions =
    record {
      takes = λ bytes p. record { taken = taken bytes p; takes = takes bytes p };
      converts = converts;
      long = long-conversion;
    }

-- ── ConversionExamples ───────────────────────────────────────────────────────────────────────────
H-converted : converted (plan_in plan-H) ≡ wide-H
unfolding converted plan_bytes header_bytes record_bytes bytes_of joined plan_in block_in format_of field table plan-H wide-H
H-converted = refl

wide-refused : (buffer : List ℕ) → convert_call wide-H buffer ≡ refuse 3 buffer
unfolding convert_call on_plan convert_verdict convert_refusal check1 check2 check3 field wide-H
wide-refused buffer = refl

-- a version 1 plan is judged as the reader judges it
old-judged : (bytes : List ℕ) → ((later : ℕ) → check1 (length bytes) (check2 (mark_in bytes) (check3 converted_version (version_in bytes) later)) ≡ later)
    → convert_verdict bytes ≡ judge bytes
old-judged bytes rows = convert_verdict-judged bytes 0 rows refl

pub conversion-examples : ConversionExamples
unfolding check1 check2 check3 field plan-H plan-full wide-H
conversion-examples =
    record {
      H = H-converted;
      again = wide-refused;
      short =
          convert_call-short plan-H [] (plan_in plan-H) (old-judged plan-H (λ later. refl) ∙ trials.H-accepted)
          (rw H-converted (lit< tt));
      full = convert_call-refused plan-full [] 11 (old-judged plan-full (λ later. refl) ∙ trials.full);
    }
