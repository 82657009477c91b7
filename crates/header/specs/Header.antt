-- What the reader of the header says, in the model's terms.
use Rattle.std.specs.Prelude.{◌≡◌, cond, List, ℕ, ◌<◌, ◌≤◌, ltb, length, Result, Ok, Err}
use Rattle.model.specs.Plan.{mark_in, version_in, racks_in, rack_size_in, feeds_in, capacity_in, budget_in, block_count_in, common_length, header_length, Format as ModelFormat, format_in, record_at, plan_in}
use Rattle.model.specs.Refusal.{or_else, check1, check2, check3, check4, check22, check5, check6, check7, plan_refusal, refusal}
use Rattle.refusal.specs.declared.Refusal.{Refusal}
use Rattle.refusal.specs.Rows.{number_of}
use Rattle.cluster.specs.declared.Cluster.{Cluster}
use Rattle.cluster.specs.Cluster.{InRange}
use Rattle.header.specs.declared.Header.{Header}

-- The header's fields, as the structs have them, with so many blocks.
abbrev pub cluster_counted : ℕ → List ℕ → Cluster
cluster_counted count bytes =
    record {
      racks = racks_in bytes;
      rack_size = rack_size_in bytes;
      feeds = feeds_in bytes;
      capacity = capacity_in bytes;
      blocks = count;
    }

unfoldable pub header_counted : ℕ → List ℕ → Header
header_counted count bytes = record { version = version_in bytes; cluster = cluster_counted count bytes; budget = budget_in bytes }

abbrev pub header_in : List ℕ → Header
header_in bytes = header_counted (block_count_in bytes) bytes

-- B, and 0 where one of its bytes is missing.
unfoldable pub counted_blocks : List ℕ → ℕ
counted_blocks bytes = cond (ltb (length bytes) (header_length (format_in bytes))) 0 (block_count_in bytes)

-- Each number that check 4 multiplies fits its byte.
pub record Narrow (h : Header) : Type 0 where
  pub racks-narrow : h.cluster.racks < 256
  pub size-narrow : h.cluster.rack_size < 256

-- The code r of checks 4, 22 and 5, whatever the later rows say.
abbrev pub HallRows : ℕ → ℕ → ℕ → ℕ → ℕ → Type 0
HallRows racks size feeds capacity r = (later : ℕ) → check4 racks size (check22 racks feeds (check5 capacity later)) ≡ or_else r later

-- The code r of checks 6 and 7, whatever the later rows say.
abbrev pub SizeRows : ModelFormat → ℕ → ℕ → ℕ → Type 0
SizeRows f blocks size r = (later : ℕ) → check6 f size blocks (check7 f size blocks later) ≡ or_else r later

-- The code r of checks 1 to 3 where versions 1 to `latest` are read, whatever the later rows say.
pub record MarkChecked (latest : ℕ) (bytes : List ℕ) (r : ℕ) : Type 0 where
  pub code : (later : ℕ) → check1 (length bytes) (check2 (mark_in bytes) (check3 latest (version_in bytes) later)) ≡ or_else r later
  pub long : r ≡ 0 → common_length ≤ length bytes

-- Checks 1 to 7 and 22 pass: the header's fields with their ranges, and what is left of the verdict is the plan's.
pub record PassedAs (bytes : List ℕ) (h : Header) : Type 0 where
  pub fields : h ≡ header_in bytes
  pub left : refusal bytes ≡ plan_refusal (plan_in bytes)
  pub in-range : InRange h.cluster
  pub length-is : length bytes ≡ record_at (format_in bytes) h.cluster.blocks

pub record RefusedAs (bytes : List ℕ) (code : ℕ) : Type 0 where
  pub is : refusal bytes ≡ code
  pub some : 1 ≤ code

abbrev pub HeaderChecked : List ℕ → Result Header Refusal → Type 0
HeaderChecked bytes (Err refusal) = RefusedAs bytes (number_of refusal)
HeaderChecked bytes (Ok h) = PassedAs bytes h
