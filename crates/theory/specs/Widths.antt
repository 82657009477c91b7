-- How large the numbers of an accepted plan get. Another width, unit or limit changes these values and nothing that cites the names.
use Rattle.std.specs.Prelude.{ℕ, ◌*◌, ◌^◌, ◌≤◌}
use Rattle.model.specs.Refusal.{max_machines, max_blocks}
use Rattle.model.specs.Replication.{unit}

-- The most copies of a block in any version.
abbrev pub most_replicas : ℕ
most_replicas = 10

-- The bytes of the widest popularity of any version, and what every popularity is below.
abbrev pub widest_popularity : ℕ
widest_popularity = 4

abbrev pub popularity_bound : ℕ
popularity_bound = 256 ^ widest_popularity

-- What every share is below: a whole popularity in units.
abbrev pub share_bound : ℕ
share_bound = popularity_bound * unit

-- What every load is below: a share of every block.
abbrev pub load_bound : ℕ
load_bound = share_bound * max_blocks

-- A share has at most 44 bits, a load 54, and the sum of all loads 60.
pub record WidthLaws : Type 0 where
  pub share-width : share_bound ≤ 2 ^ 44
  pub load-width : load_bound ≤ 2 ^ 54
  pub total-width : load_bound * max_machines ≤ 2 ^ 60
