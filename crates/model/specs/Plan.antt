-- Document 01, "The plan file", and document 02, U1, U4, U5 and U6: what the bytes of a plan say.
use Rattle.std.specs.Prelude.{Bool, false, cond, ◌||◌, List, ℕ, zero, suc, ◌+◌, ◌*◌, ◌-◌, ◌/◌, ◌%◌, min, ltb, eqb, length, get_or}
use Rattle.order.specs.Sum.{sum}
use Rattle.order.specs.Table.{table}

-- One block. `popularity` is the document's P, `min_replicas` its least copies, `min_domains` its spread;
-- `pair_byte` is 1 for a block that is paired with the next one.
pub record Block : Type 0 where
  pub popularity : ℕ
  pub min_replicas : ℕ
  pub min_domains : ℕ
  pub pair_byte : ℕ

-- A plan. `version` is its file's, `racks` is R, `rack_size` the machines per rack S, `feeds` the mains feeds F, `capacity` C; `blocks`
-- are in file order.
pub record Plan : Type 0 where
  pub version : ℕ
  pub racks : ℕ
  pub rack_size : ℕ
  pub feeds : ℕ
  pub capacity : ℕ
  pub budget : ℕ
  pub blocks : List Block

-- M = R × S.
abbrev pub machines : Plan → ℕ
machines p = p.racks * p.rack_size

-- The places in all: M × C.
abbrev pub places : Plan → ℕ
places p = machines p * p.capacity

-- Machine m is in rack m div S.
abbrev pub rack_of : Plan → ℕ → ℕ
rack_of p m = m / p.rack_size

-- Rack r hangs on feed r mod F. The failure domains that a spread counts are the feeds, F of them; that of machine m, and the machines in
-- each. Before version 4, F is R, and a domain is a rack.
abbrev pub domains : Plan → ℕ
domains p = p.feeds

abbrev pub domain : Plan → ℕ → ℕ
domain p m = rack_of p m % p.feeds

abbrev pub domain_size : Plan → ℕ
domain_size p = p.racks / p.feeds * p.rack_size

-- B, and block i.
abbrev pub block_count : Plan → ℕ
block_count p = length p.blocks

abbrev pub no_block : Block
no_block = record { popularity = 0; min_replicas = 0; min_domains = 0; pair_byte = 0 }

abbrev pub block_of : Plan → ℕ → Block
block_of p i = get_or p.blocks i no_block

-- Whether block i is paired with the next one: its byte is 1; and whether the preceding one is paired with it.
abbrev pub marks_pair : Block → Bool
marks_pair b = eqb b.pair_byte 1

unfoldable pub pairs_next : Plan → ℕ → Bool
pairs_next p i = marks_pair (block_of p i)

abbrev pub preceding : (ℕ → Bool) → ℕ → Bool
preceding test zero = false
preceding test (suc i) = test i

unfoldable pub pairs_back : Plan → ℕ → Bool
pairs_back p i = preceding (λ k. pairs_next p k) i

-- A block is paired if its byte is 1 or the preceding block's is. The partner of a paired block: the other one of the two.
unfoldable pub is_paired : Plan → ℕ → Bool
is_paired p i = pairs_next p i || pairs_back p i

unfoldable pub partner : Plan → ℕ → ℕ
partner p i = cond (pairs_next p i) (suc i) (i - 1)

-- The most copies of a block in a version: 8, from version 3 on 10.
unfoldable pub max_replicas : ℕ → ℕ
max_replicas version = cond (ltb version 3) 8 10

-- The upper count of block i: the smaller of the most copies and M, of a paired one of the most copies and half of M rounded down.
unfoldable pub upper : Plan → ℕ → ℕ
upper p i =
    let most = max_replicas p.version in
    cond (is_paired p i) (min most (machines p / 2)) (min most (machines p))

-- The sum of the least copies.
unfoldable pub min_total : Plan → ℕ
min_total p = sum (block_count p) (λ i. (block_of p i).min_replicas)

-- The number in the `width` bytes from `at` on, high byte first.
unfoldable pub field : List ℕ → ℕ → ℕ → ℕ
field bytes at zero = 0
field bytes at (suc width) = field bytes at width * 256 + get_or bytes (at + width) 0

-- The format of a version's file: the widths of the fields in which versions differ. A record's fields stand one after the other.
pub record Format : Type 0 where
  pub feeds_width : ℕ
  pub popularity_width : ℕ
  pub min_replicas_width : ℕ
  pub min_domains_width : ℕ
  pub pair_byte_width : ℕ

-- The versions are 1 to 4. From version 4 on the header has the byte F. Records have a popularity of 3 bytes, from version 3 on of 4, least
-- copies of 1 and a spread of 1; from version 2 on also the pair byte. Where it is not in the file it is 0.
abbrev pub latest_version : ℕ
latest_version = 4

unfoldable pub format_of : ℕ → Format
format_of version =
    record {
      feeds_width = cond (ltb version 4) 0 1;
      popularity_width = cond (ltb version 3) 3 4;
      min_replicas_width = 1;
      min_domains_width = 1;
      pair_byte_width = cond (ltb version 2) 0 1;
    }

-- The header's table: each field by its first byte and its width. Every version's header has `common_length` bytes; F stands after machines
-- per rack and shifts the later fields. Where it is not in the file it is R.
abbrev pub common_length : ℕ
common_length = 15

abbrev pub mark_in : List ℕ → ℕ
mark_in bytes = field bytes 0 3

abbrev pub version_in : List ℕ → ℕ
version_in bytes = field bytes 3 2

abbrev pub format_in : List ℕ → Format
format_in bytes = format_of (version_in bytes)

abbrev pub racks_in : List ℕ → ℕ
racks_in bytes = field bytes 5 1

abbrev pub rack_size_in : List ℕ → ℕ
rack_size_in bytes = field bytes 6 1

abbrev pub feeds_in : List ℕ → ℕ
feeds_in bytes =
    let width = (format_in bytes).feeds_width in
    cond (eqb width 0) (racks_in bytes) (field bytes 7 width)

abbrev pub capacity_in : List ℕ → ℕ
capacity_in bytes = field bytes (7 + (format_in bytes).feeds_width) 2

abbrev pub budget_in : List ℕ → ℕ
budget_in bytes = field bytes (9 + (format_in bytes).feeds_width) 4

abbrev pub block_count_in : List ℕ → ℕ
block_count_in bytes = field bytes (13 + (format_in bytes).feeds_width) 2

abbrev pub header_length : Format → ℕ
header_length f = common_length + f.feeds_width

-- Where a record's fields stand in it, and its length. Record i stands at `record_at f i`.
abbrev pub min_replicas_at : Format → ℕ
min_replicas_at f = f.popularity_width

abbrev pub min_domains_at : Format → ℕ
min_domains_at f = min_replicas_at f + f.min_replicas_width

abbrev pub pair_byte_at : Format → ℕ
pair_byte_at f = min_domains_at f + f.min_domains_width

abbrev pub record_length : Format → ℕ
record_length f = pair_byte_at f + f.pair_byte_width

abbrev pub record_at : Format → ℕ → ℕ
record_at f i = header_length f + record_length f * i

-- The block whose record begins at `at`, and block i.
abbrev pub block_at : Format → List ℕ → ℕ → Block
block_at f bytes at =
    record {
      popularity = field bytes at f.popularity_width;
      min_replicas = field bytes (at + min_replicas_at f) f.min_replicas_width;
      min_domains = field bytes (at + min_domains_at f) f.min_domains_width;
      pair_byte = field bytes (at + pair_byte_at f) f.pair_byte_width;
    }

unfoldable pub block_in : Format → List ℕ → ℕ → Block
block_in f bytes i = block_at f bytes (record_at f i)

-- The plan that the bytes hold.
unfoldable pub plan_in : List ℕ → Plan
plan_in bytes =
    record {
      version = version_in bytes;
      racks = racks_in bytes;
      rack_size = rack_size_in bytes;
      feeds = feeds_in bytes;
      capacity = capacity_in bytes;
      budget = budget_in bytes;
      blocks = table (block_count_in bytes) (block_in (format_in bytes) bytes);
    }
