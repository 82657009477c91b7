-- Laws of the new file's pieces.
-- Assumes nothing.
use mathlib.Core.Path.{◌≡◌, ap}
use mathlib.Core.List.{List, ◌++◌}
use Prim.Native.Nat.{ℕ, ◌<◌}
use Rattle.order.specs.Table.{joined}
use Rattle.model.specs.Plan.{Format, block_of, format_of, block_in, plan_in}
use Rattle.model.specs.Writing.{header_bytes, record_bytes, plan_bytes}
use Rattle.model.specs.Conversion.{written_version, converted}
use Rattle.header.specs.declared.Header.{Header}
use Rattle.header.specs.Format.{as_format}
use Rattle.records.specs.declared.view.Records.{Records}
use Rattle.records.specs.Files.{OfFile}
use Rattle.records.proofs.Laws.{file-block}
use Rattle.encoding.specs.Pieces.{header_with}
use Rattle.plan.specs.declared.passed.Accepted.{Accepted}
use Rattle.plan.specs.Reading.{plan_of}
use Rattle.plan.specs.Verdict.{accepted_plan}
use Rattle.plan.proofs.Laws.{plan_of-blocks, plan_in-blocks, accepted-of}
use Rattle.conversion.specs.Pieces.{new_records}

-- ── new_records ─────────────────────────────────────────────────────────────────────────────────────────────────────────

-- The new form of block i.
abbrev pub renewed : Format → List ℕ → ℕ → List ℕ
renewed new bytes i = record_bytes new (block_of (plan_in bytes) i)

-- an accepted plan's new records are made from the old ones
pub new_records-read : (a : Accepted) (new : Format) → new_records new (accepted_plan a) ≡ joined a.header.cluster.blocks (renewed new a.records.bytes.now)
new_records-read a new =
    let of = accepted-of a.records.bytes.now a.header a.accepts in
    rw (of.held, plan_in-blocks _ _ of)

-- block i of a file's records is the plan's
pub renewed-block : (r : Records) → OfFile r → (bytes : List ℕ) → r.bytes.now ≡ bytes → (new : Format) (i : ℕ) → i < r.blocks
    → record_bytes new (block_in (as_format r.format) r.bytes.now i) ≡ renewed new bytes i
renewed-block r of bytes same new i l = ap (record_bytes new) (file-block r of bytes same i l)

-- ── converted ──────────────────────────────────────────────────────────────────────────────────────────────────────────

-- the new file is the new header and the new records
pub converted-parts : (bytes : List ℕ) (h : Header)
    → converted (plan_of bytes h)
    ≡ header_with written_version (format_of written_version) h ++ new_records (format_of written_version) (plan_of bytes h)
unfolding converted plan_bytes header_bytes header_with plan_of
converted-parts bytes h = rw (plan_of-blocks bytes h)
