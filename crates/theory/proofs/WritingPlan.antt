-- Laws of a whole file: a plan that is written is read back, as no row turns a valid plan back; and an accepted plan is written as it was
-- read.
-- Assumes nothing.
use mathlib.Core.Path.{◌≡◌, refl, ap, sym, ◌∙◌}
use mathlib.Core.List.{List}
use Prim.Native.Nat.{ℕ, suc, ◌+◌, ◌*◌, ◌<◌, ◌≤◌}
use native.Mathlib.Nat.{zero-add, mul-le-mul_left}
use native.Mathlib.Omega.{arith}
use borrow.Author.Tests.{le-ltb, eq-eqb}
use lib.ListN.{length, length-append}
use lib.Seq.{ext_get_or}
use Rattle.order.specs.Table.{table, joined}
use Rattle.order.proofs.Booleans.{pos-eqb}
use Rattle.order.proofs.Tables.{joined_length, length-table, get_d-table}
use Rattle.model.specs.Plan.{Plan, machines, block_count, no_block, block_of, common_length, latest_version, mark_in, version_in, block_count_in, format_of, format_in, header_length, record_length, record_at, block_in, plan_in}
use Rattle.model.specs.Refusal.{mark, max_machines, max_capacity, max_blocks, check1, check2, check3, check4, check5, check7, plan_refusal, refusal, accepted}
use Rattle.model.specs.Writing.{header_bytes, record_bytes, plan_bytes}
use Rattle.theory.specs.Refusal.{Shaped}
use Rattle.theory.specs.Writing.{AreBytes, BlockFits, PlanFits, ReadsWritten, WritesRead, AcceptedFits}
use Rattle.theory.proofs.Plan.{field_bound, plan_in-block_count, plan_in-block_of}
use Rattle.theory.proofs.Refusal.{check22-passed, check6-long, plan_refusal-valid, judge-accepted, accepted-laws, accepted-mark}
use Rattle.theory.proofs.Writing.{Stands, stands-all, stands-whole, stands-both, stands-first, stands-next, joined-stands, joined-each, record_bytes-length, record_bytes-read, record_bytes-stands, record_bytes-fits, HeaderIs, header_bytes-length, header_bytes-read, header_bytes-stands}

-- ── plan_bytes ────────────────────────────────────────────────────────────────────────────────────
-- The records of a plan's blocks, each of its format's length.
abbrev records : Plan → ℕ → List ℕ
records p i = record_bytes (format_of p.version) (block_of p i)

records-length : (p : Plan) (i : ℕ) → length (records p i) ≡ record_length (format_of p.version)
records-length p i = record_bytes-length (format_of p.version) (block_of p i)

pub plan_bytes-length : (p : Plan) → length (plan_bytes p) ≡ record_at (format_of p.version) (block_count p)
unfolding plan_bytes
plan_bytes-length p =
    let all = joined_length (block_count p) _ (records p) (λ i l. records-length p i) in
    rw (length-append, header_bytes-length, all) (omega arith)

-- a header and records that stand one after the other are the plan's bytes, and the other way round
module _ (bytes : List ℕ) (p : Plan) where
  pub plan_bytes-both : Stands bytes 0 (header_bytes p)
      → ((i : ℕ) → i < block_count p → Stands bytes (record_at (format_of p.version) i) (records p i))
      → Stands bytes 0 (plan_bytes p)
  unfolding plan_bytes
  plan_bytes-both header each =
      let long = header_length (format_of p.version) in
      let behind = joined-stands bytes long _ (records p) (records-length p) (block_count p) each in
      stands-both bytes 0 (header_bytes p) (joined (block_count p) (records p)) long (header_bytes-length p) header (rw (zero-add long) behind)

  module _ (h : Stands bytes 0 (plan_bytes p)) where
    pub plan_bytes-header : Stands bytes 0 (header_bytes p)
    unfolding plan_bytes
    plan_bytes-header = stands-first bytes 0 (header_bytes p) (joined (block_count p) (records p)) _ (header_bytes-length p) h

    pub plan_bytes-record : (i : ℕ) → i < block_count p → Stands bytes (record_at (format_of p.version) i) (records p i)
    unfolding plan_bytes
    plan_bytes-record =
        let long = header_length (format_of p.version) in
        let behind = stands-next bytes 0 (header_bytes p) (joined (block_count p) (records p)) long (header_bytes-length p) h in
        joined-each bytes long _ (records p) (records-length p) (block_count p) (rw (zero-add long) at behind)

-- a plan's bytes hold the plan
module _ (p : Plan) (shaped : Shaped p) (fits : PlanFits p) where
  header_is : HeaderIs (plan_bytes p) p
  header_is = header_bytes-read (plan_bytes p) p shaped fits (plan_bytes-header (plan_bytes p) p (stands-all (plan_bytes p)))

  block-is : (i : ℕ) → i < block_count p → block_in (format_of p.version) (plan_bytes p) i ≡ block_of p i
  unfolding block_in
  block-is i l =
      let f = format_of p.version in
      record_bytes-read f (plan_bytes p) (record_at f i) (block_of p i) (fits.block-fits i l)
      (plan_bytes-record (plan_bytes p) p (stands-all (plan_bytes p)) i l)

  pub plan_in-written : plan_in (plan_bytes p) ≡ p
  unfolding plan_in
  plan_in-written =
      let is = header_is in
      let n = block_count p in
      let g = block_in (format_of p.version) (plan_bytes p) in
      let blocks =
      ext_get_or no_block (table n g) p.blocks (length-table n g)
      (λ i l. let below : i < n = rw (length-table n g) at l in get_d-table n g i no_block below ∙ block-is i below)
      in
      rw (is.feeds-is, is.capacity-is, is.budget-is, is.count-is, is.version-is, is.racks-is, is.size_is, blocks)

-- the bytes of the plan that bytes hold stand in them, and its numbers fit
module _ (bytes : List ℕ) (each : AreBytes bytes) where
  plan_in-stands : mark_in bytes ≡ mark → record_at (format_in bytes) (block_count_in bytes) ≤ length bytes
      → Stands bytes 0 (plan_bytes (plan_in bytes))
  unfolding plan_in block_in
  plan_in-stands marked within =
      plan_bytes-both bytes (plan_in bytes) (header_bytes-stands bytes each (plan_in bytes) (omega arith) is)
      (λ i l. own i (rw (plan_in-block_count bytes) at l))
    where
      is : HeaderIs bytes (plan_in bytes)
      is =
          record {
            mark-is = marked;
            version-is = refl;
            racks-is = refl;
            size_is = refl;
            feeds-is = refl;
            capacity-is = refl;
            budget-is = refl;
            count-is = sym (plan_in-block_count bytes);
          }

      own : (i : ℕ) → i < block_count_in bytes
          → Stands bytes (record_at (format_in bytes) i) (record_bytes (format_in bytes) (block_of (plan_in bytes) i))
      own i l =
          let f = format_in bytes in
          let product : record_length f * suc i ≤ record_length f * block_count_in bytes = mul-le-mul_left (record_length f) l in
          rw (plan_in-block_of bytes i l) (record_bytes-stands f bytes (record_at f i) each (omega arith))

  plan_in-fits : 1 ≤ version_in bytes → version_in bytes ≤ latest_version → PlanFits (plan_in bytes)
  unfolding plan_in block_in
  plan_in-fits some latest =
      record {
        version-pos = some;
        version-max = latest;
        feeds-racks = λ none. rw none;
        budget-fits = field_bound bytes each (9 + (format_in bytes).feeds_width) 4;
        block-fits = λ i l. block i (rw (plan_in-block_count bytes) at l);
      }
    where
      block : (i : ℕ) → i < block_count_in bytes → BlockFits (format_in bytes) (block_of (plan_in bytes) i)
      block i l = rw (plan_in-block_of bytes i l) (record_bytes-fits (format_in bytes) bytes (record_at (format_in bytes) i) each)

-- ── refusal ──────────────────────────────────────────────────────────────────────────────────────
-- the rows on the header turn no such file back
pub refusal-written : (p : Plan) → Shaped p → PlanFits p → refusal (plan_bytes p) ≡ plan_refusal p
unfolding refusal check1 check2 check3 check4 check5 check7
refusal-written p shaped fits =
    let is = header_is p shaped fits in
    let f = format_of p.version in
    rw (
      plan_in-written p shaped fits,
      plan_bytes-length p,
      is.mark-is,
      is.feeds-is,
      is.capacity-is,
      is.count-is,
      is.version-is,
      is.racks-is,
      is.size_is,
      le-ltb (record_at f (block_count p)) common_length (omega arith),
      pos-eqb p.version fits.version-pos,
      le-ltb latest_version p.version fits.version-max,
      pos-eqb p.racks shaped.racks-pos,
      pos-eqb p.rack_size shaped.size-pos,
      le-ltb max_machines (machines p) shaped.machines-max,
      check22-passed p.racks p.feeds _ shaped.feeds-pos shaped.feeds-divide,
      pos-eqb p.capacity shaped.capacity-pos,
      le-ltb max_capacity p.capacity shaped.capacity-max,
      check6-long f (record_at f (block_count p)) (block_count p) _ (omega arith),
      le-ltb max_blocks (block_count p) shaped.blocks-max,
      eq-eqb (record_at f (block_count p)) _ refl,
    )

-- ── judge ────────────────────────────────────────────────────────────────────────────────────────
pub reads-written : ReadsWritten
reads-written p valid fits =
    judge-accepted (plan_bytes p) (refusal-written p valid.shaped fits ∙ plan_refusal-valid p valid)
    ∙ ap accepted (plan_in-written p valid.shaped fits)

pub writes-read : WritesRead
unfolding plan_in
writes-read bytes each p e =
    let f = format_in bytes in
    let laws = accepted-laws bytes p e in
    let size = laws.length-is ∙ ap (λ (q : Plan). record_at f (block_count q)) laws.held in
    let count = ap (record_at f) (plan_in-block_count bytes) in
    let stands = plan_in-stands bytes each (accepted-mark bytes p e).0 (omega (arith, size, count)) in
    rw laws.held (stands-whole bytes (plan_bytes (plan_in bytes)) (plan_bytes-length (plan_in bytes) ∙ sym size) stands)

pub accepted-fits : AcceptedFits
accepted-fits bytes each p e =
    let z = accepted-mark bytes p e in
    rw (accepted-laws bytes p e).held (plan_in-fits bytes each z.1 z.2)
