-- Document 02, U4: what holds of record layouts, over the popularity field's width and whether there is a pair byte; and of whole files.
use Rattle.std.specs.Prelude.{◌≡◌, List, ◌++◌, ℕ, ◌+◌, ◌^◌, ◌<◌, ◌≤◌, length, get_or, take, drop}
use Rattle.model.specs.Plan.{Block, Plan, block_count, block_of, latest_version, Format, format_of, record_length, block_at}
use Rattle.model.specs.Refusal.{judge, accepted}
use Rattle.model.specs.Writing.{record_bytes, plan_bytes}
use Rattle.theory.specs.Refusal.{Valid}

-- Every number of the list is a byte.
abbrev pub AreBytes : List ℕ → Type 0
AreBytes bytes = (i : ℕ) → get_or bytes i 0 < 256

-- The block's numbers fit the widths of a format.
pub record BlockFits (f : Format) (b : Block) : Type 0 where
  pub popularity-fits : b.popularity < 256 ^ f.popularity_width
  pub replicas-fits : b.min_replicas < 256 ^ f.min_replicas_width
  pub domains-fits : b.min_domains < 256 ^ f.min_domains_width
  pub pair_fits : b.pair_byte < 256 ^ f.pair_byte_width

-- Of every layout, whatever its widths, and wherever a record stands: its length; reading gives the numbers that were written; writing
-- what is read gives the bytes, and what is read fits.
pub record LayoutLaws (f : Format) : Type 0 where
  pub length-is : (b : Block) → length (record_bytes f b) ≡ record_length f
  pub reads-written : (before later : List ℕ) (b : Block) → BlockFits f b
      → block_at f (before ++ record_bytes f b ++ later) (length before) ≡ b
  pub writes-read : (bytes : List ℕ) → AreBytes bytes → (at : ℕ) → at + record_length f ≤ length bytes
      → record_bytes f (block_at f bytes at) ≡ take (record_length f) (drop at bytes)
  pub read_fits : (bytes : List ℕ) → AreBytes bytes → (at : ℕ) → BlockFits f (block_at f bytes at)

abbrev pub Layouts : Type 0
Layouts = (f : Format) → LayoutLaws f

-- The plan is of a version that is read, and its numbers fit that version's file.
pub record PlanFits (p : Plan) : Type 0 where
  pub version-pos : 1 ≤ p.version
  pub version-max : p.version ≤ latest_version
  -- where the file has no F it is R
  pub feeds-racks : (format_of p.version).feeds_width ≡ 0 → p.feeds ≡ p.racks
  pub budget-fits : p.budget < 256 ^ 4
  pub block-fits : (i : ℕ) → i < block_count p → BlockFits (format_of p.version) (block_of p i)

-- Reading what was written gives the plan; writing an accepted plan in its version's layout gives its bytes back; an accepted plan fits.
abbrev pub ReadsWritten : Type 0
ReadsWritten = (p : Plan) → Valid p → PlanFits p → judge (plan_bytes p) ≡ accepted p

abbrev pub WritesRead : Type 0
WritesRead = (bytes : List ℕ) → AreBytes bytes → (p : Plan) → judge bytes ≡ accepted p → plan_bytes p ≡ bytes

abbrev pub AcceptedFits : Type 0
AcceptedFits = (bytes : List ℕ) → AreBytes bytes → (p : Plan) → judge bytes ≡ accepted p → PlanFits p
