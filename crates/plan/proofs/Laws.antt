-- What the header and the pass over the records say of the plan.
-- Assumes nothing.
use mathlib.Core.Path.{◌≡◌, ap, sym, ◌∙◌}
use mathlib.Core.List.{List}
use Prim.Native.Nat.{ℕ, ◌*◌, ◌≤◌}
use native.Mathlib.Omega.{arith}
use lib.ListN.{get_or}
use Rattle.order.specs.Table.{filled}
use Rattle.order.proofs.Tables.{length-table, get_d-filled}
use Rattle.model.specs.Plan.{Plan, machines, domains, block_count, min_total, block_count_in, Format, format_of, format_in, record_at, block_in, plan_in}
use Rattle.model.specs.Refusal.{check23, check10, check11, blocks_refusal, pairs_refusal, plan_refusal, refusal, judge, accepted}
use Rattle.theory.specs.Refusal.{Valid}
use Rattle.theory.proofs.Plan.{plan_in-block_count}
use Rattle.theory.proofs.Refusal.{or_else-some, accepted-laws}
use Rattle.cluster.specs.declared.Cluster.{Cluster}
use Rattle.cluster.specs.Cluster.{machines_in, InRange, ClusterOf}
use Rattle.cluster.specs.Blocks.{demand_of, DemandsOf}
use Rattle.cluster.proofs.Laws.{cluster-range}
use Rattle.header.specs.declared.Header.{Header}
use Rattle.header.specs.Header.{header_counted, header_in, PassedAs}
use Rattle.records.specs.Files.{OfFile}
use Rattle.plan.specs.declared.passed.Accepted.{Accepted}
use Rattle.plan.specs.Reading.{plan_of, FileAsked, AcceptedHeader}

-- ── plan_of ─────────────────────────────────────────────────────────────────────────────────────────────────────────────

-- with the header that was read, it is the plan that the bytes hold
pub plan_of-in : (bytes : List ℕ) (h : Header) → h ≡ header_in bytes → plan_of bytes h ≡ plan_in bytes
unfolding plan_of plan_in header_counted
plan_of-in bytes h e = ap (plan_of bytes) e

module _ (bytes : List ℕ) (h : Header) where
  pub plan_of-blocks : block_count (plan_of bytes h) ≡ h.cluster.blocks
  unfolding plan_of
  plan_of-blocks = length-table h.cluster.blocks (block_in (format_in bytes) bytes)

  -- its cluster is the header's
  pub plan_of-cluster : Valid (plan_of bytes h) → ClusterOf (plan_of bytes h) h.cluster
  unfolding plan_of
  plan_of-cluster valid =
      record {
        valid = valid;
        is =
            ap (λ (n : ℕ). record { racks = h.cluster.racks; rack_size = h.cluster.rack_size; feeds = h.cluster.feeds; capacity = h.cluster.capacity; blocks = n })
            (sym plan_of-blocks);
      }

  pub accepted-header : judge bytes ≡ accepted (plan_of bytes h) → AcceptedHeader bytes h
  accepted-header e =
      let laws = accepted-laws bytes (plan_of bytes h) e in
      record {
        cluster-of = plan_of-cluster laws.valid;
        held = laws.held;
        length-is = laws.length-is ∙ ap (record_at (format_in bytes)) plan_of-blocks;
      }

-- ── plan_in ─────────────────────────────────────────────────────────────────────────────────────────────────────────────

-- A header with the numbers of the plan that the bytes hold, in their ranges.
pub record HeaderOf (bytes : List ℕ) (h : Header) : Type 0 where
  pub held : plan_of bytes h ≡ plan_in bytes
  pub in-range : InRange h.cluster

pub passed-of : (bytes : List ℕ) (h : Header) → PassedAs bytes h → HeaderOf bytes h
passed-of bytes h passed =
    record { held = plan_of-in bytes h passed.fields; in-range = passed.in-range }

-- and its version and its count are those of the bytes
module _ (bytes : List ℕ) (h : Header) (passed : PassedAs bytes h) where
  pub passed-format : format_of h.version ≡ format_in bytes
  unfolding header_counted
  passed-format = ap (λ (g : Header). format_of g.version) passed.fields

  pub passed-blocks : h.cluster.blocks ≡ block_count_in bytes
  unfolding header_counted
  passed-blocks = ap (λ (g : Header). g.cluster.blocks) passed.fields

-- so that the records of its file are asked for rightly, in the format that either gives
pub passed-file : (bytes : List ℕ) (h : Header) → PassedAs bytes h → (f : Format) → f ≡ format_in bytes → FileAsked bytes f h.cluster.blocks
passed-file bytes h passed f is =
    record {
      format-is = is;
      blocks-are = passed-blocks bytes h passed;
      blocks-max = passed.in-range.blocks-max;
      room = omega (arith, passed.length-is, ap (λ (g : Format). record_at g h.cluster.blocks) is);
    }

pub accepted-of : (bytes : List ℕ) (h : Header) → judge bytes ≡ accepted (plan_of bytes h) → HeaderOf bytes h
accepted-of bytes h e =
    let laws = accepted-header bytes h e in
    record { held = laws.held; in-range = cluster-range _ _ laws.cluster-of }

module _ (bytes : List ℕ) (h : Header) (of : HeaderOf bytes h) where
  pub plan_in-blocks : h.cluster.blocks ≡ block_count (plan_in bytes)
  plan_in-blocks = sym (plan_of-blocks bytes h) ∙ ap block_count of.held

  pub plan_in-version : h.version ≡ (plan_in bytes).version
  unfolding plan_of
  plan_in-version = ap (λ (p : Plan). p.version) of.held

  pub plan_in-domains : h.cluster.feeds ≡ domains (plan_in bytes)
  unfolding plan_of
  plan_in-domains = ap domains of.held

  pub plan_in-machines : machines_in h.cluster ≡ machines (plan_in bytes)
  unfolding plan_of
  plan_in-machines = ap machines of.held

-- the records of an accepted plan's file are asked for rightly, too
pub accepted-file : (bytes : List ℕ) (h : Header) → judge bytes ≡ accepted (plan_of bytes h)
    → (f : Format) → f ≡ format_in bytes → FileAsked bytes f h.cluster.blocks
accepted-file bytes h e f is =
    let laws = accepted-header bytes h e in
    let of = accepted-of bytes h e in
    record {
      format-is = is;
      blocks-are = plan_in-blocks bytes h of ∙ plan_in-block_count bytes;
      blocks-max = of.in-range.blocks-max;
      room = omega (arith, laws.length-is, ap (λ (g : Format). record_at g h.cluster.blocks) is);
    }

-- what an accepted plan keeps are the records of its file
pub accepted-records : (a : Accepted) → OfFile a.records
accepted-records a =
    let of = accepted-of a.records.bytes.now a.header a.accepts in
    record { format-is = a.format_is; blocks-are = a.blocks_are ∙ plan_in-blocks _ a.header of ∙ plan_in-block_count _ }

-- ── DemandsOf ──────────────────────────────────────────────────────────────────────────────────────────────────────────

-- a list filled with a plan's demands holds them
pub demands-of : (p : Plan) (c : Cluster) (demands₀ demands : List ℕ) → ClusterOf p c
    → demands ≡ filled c.blocks (demand_of p) demands₀
    → DemandsOf p c demands
demands-of p c demands₀ demands of are =
    record { cluster = of; are = λ i l. ap (λ (d : List ℕ). get_or d i 0) are ∙ get_d-filled c.blocks (demand_of p) demands₀ i 0 l }

-- ── refusal ────────────────────────────────────────────────────────────────────────────────────────────────────────────

-- Checks 23, 10 and 11 on a header's numbers and a sum of least copies.
abbrev pub sums_refusal : Header → ℕ → ℕ
sums_refusal h total =
    let places = machines_in h.cluster * h.cluster.capacity in
    check23 h.version places h.budget (check10 h.budget total (check11 places total 0))

module _ (bytes : List ℕ) (h : Header) (passed : PassedAs bytes h) where
  -- past checks 1 to 7, a block's refusal decides
  pub refusal-fault : (code : ℕ) → blocks_refusal (plan_in bytes) ≡ code → 1 ≤ code → refusal bytes ≡ code
  unfolding plan_refusal
  refusal-fault code is some = passed.left ∙ (rw is (or_else-some code _ (λ z. omega arith)))

  -- past checks 8 and 9, that of a pair
  pub refusal-pairs : (code : ℕ) → blocks_refusal (plan_in bytes) ≡ 0 → pairs_refusal (plan_in bytes) ≡ code → 1 ≤ code → refusal bytes ≡ code
  unfolding plan_refusal
  refusal-pairs code none is some = passed.left ∙ (rw (none, is) (or_else-some code _ (λ z. omega arith)))

  -- past check 17, checks 23, 10 and 11 on the numbers that were read decide
  pub refusal-sums : (total : ℕ) → blocks_refusal (plan_in bytes) ≡ 0 → pairs_refusal (plan_in bytes) ≡ 0 → total ≡ min_total (plan_in bytes)
      → refusal bytes ≡ sums_refusal h total
  unfolding plan_refusal plan_of
  refusal-sums total none unpaired is =
      passed.left ∙ go (plan_in bytes) (plan_of-in bytes h passed.fields) none unpaired is
    where
      go : (p : Plan) → plan_of bytes h ≡ p → blocks_refusal p ≡ 0 → pairs_refusal p ≡ 0 → total ≡ min_total p → plan_refusal p ≡ sums_refusal h total
      go p e n u t = rw (n, u, ← t, ← e)
