-- Document 01, "The plan file", and document 02, U4 and U6: a plan as the bytes of a file.
use Rattle.std.specs.Prelude.{List, [], ◌∷◌, ◌++◌, ℕ, zero, suc, ◌/◌, ◌%◌}
use Rattle.order.specs.Table.{joined}
use Rattle.model.specs.Plan.{Block, Plan, block_count, block_of, Format, format_of}
use Rattle.model.specs.Refusal.{mark}

-- The `width` bytes of a number, high byte first.
unfoldable pub bytes_of : ℕ → ℕ → List ℕ
bytes_of zero n = []
bytes_of (suc width) n = bytes_of width (n / 256) ++ (n % 256) ∷ []

-- The header: the fields of its table, one after the other.
unfoldable pub header_bytes : Plan → List ℕ
header_bytes p =
    bytes_of 3 mark
    ++ bytes_of 2 p.version
    ++ bytes_of 1 p.racks
    ++ bytes_of 1 p.rack_size
    ++ bytes_of (format_of p.version).feeds_width p.feeds
    ++ bytes_of 2 p.capacity
    ++ bytes_of 4 p.budget
    ++ bytes_of 2 (block_count p)

-- A block's record, in the widths of a format.
unfoldable pub record_bytes : Format → Block → List ℕ
record_bytes f b =
    bytes_of f.popularity_width b.popularity
    ++ bytes_of f.min_replicas_width b.min_replicas
    ++ bytes_of f.min_domains_width b.min_domains
    ++ bytes_of f.pair_byte_width b.pair_byte

-- The plan's file in its version.
unfoldable pub plan_bytes : Plan → List ℕ
plan_bytes p = header_bytes p ++ joined (block_count p) (λ i. record_bytes (format_of p.version) (block_of p i))
