-- What the passes over a plan's bytes say, in the model's terms.
use Rattle.std.specs.Prelude.{◌≡◌, List, ℕ, ◌≤◌, length, Result, Ok, Err}
use Rattle.order.specs.Table.{table, filled}
use Rattle.model.specs.Plan.{Plan, min_total, block_count_in, Format, format_in, record_at, block_in, plan_in}
use Rattle.model.specs.Refusal.{max_blocks, blocks_refusal}
use Rattle.refusal.specs.declared.Refusal.{Refusal}
use Rattle.refusal.specs.Rows.{number_of}
use Rattle.cluster.specs.Cluster.{ClusterOf}
use Rattle.cluster.specs.Blocks.{demand_of, DemandsFit}
use Rattle.header.specs.declared.Header.{Header}

-- The plan with a header's fields and the records of the bytes.
unfoldable pub plan_of : List ℕ → Header → Plan
plan_of bytes h =
    record {
      version = h.version;
      racks = h.cluster.racks;
      rack_size = h.cluster.rack_size;
      feeds = h.cluster.feeds;
      capacity = h.cluster.capacity;
      budget = h.budget;
      blocks = table h.cluster.blocks (block_in (format_in bytes) bytes);
    }

-- The bytes hold so many records in the format, as their own header says.
pub record FileAsked (bytes : List ℕ) (f : Format) (blocks : ℕ) : Type 0 where
  pub format-is : f ≡ format_in bytes
  pub blocks-are : blocks ≡ block_count_in bytes
  pub blocks-max : blocks ≤ max_blocks
  pub room : record_at f blocks ≤ length bytes

pub record FaultAs (bytes : List ℕ) (code : ℕ) : Type 0 where
  pub is : blocks_refusal (plan_in bytes) ≡ code
  pub some : 1 ≤ code

pub record TotalAs (bytes : List ℕ) (total : ℕ) : Type 0 where
  pub none : blocks_refusal (plan_in bytes) ≡ 0
  pub is : total ≡ min_total (plan_in bytes)

-- What the pass over the records finds.
abbrev pub RecordsRead : List ℕ → Result ℕ Refusal → Type 0
RecordsRead bytes (Err refusal) = FaultAs bytes (number_of refusal)
RecordsRead bytes (Ok total) = TotalAs bytes total

-- The demands of the plan's blocks, in their ranges; later items stay.
pub record Decoded (bytes : List ℕ) (h : Header) (demands₀ demands : List ℕ) : Type 0 where
  pub are : demands ≡ filled h.cluster.blocks (demand_of (plan_of bytes h)) demands₀
  pub fit : DemandsFit h.cluster demands

-- What holds of a header that was accepted with its bytes.
pub record AcceptedHeader (bytes : List ℕ) (h : Header) : Type 0 where
  pub cluster-of : ClusterOf (plan_of bytes h) h.cluster
  pub held : plan_of bytes h ≡ plan_in bytes
  pub length-is : length bytes ≡ record_at (format_in bytes) h.cluster.blocks
