-- A cluster's numbers, in their ranges and as those of a plan.
use Rattle.std.specs.Prelude.{◌≡◌, ℕ, ◌*◌, ◌/◌, ◌%◌, ◌≤◌}
use Rattle.model.specs.Plan.{Plan, block_count}
use Rattle.model.specs.Refusal.{max_machines, max_capacity, max_blocks}
use Rattle.theory.specs.Refusal.{Valid}
use Rattle.cluster.specs.declared.Cluster.{Cluster}

-- M = R × S.
abbrev pub machines_in : Cluster → ℕ
machines_in c = c.racks * c.rack_size

-- The failure domain of machine m: rack m div S hangs on feed (m div S) mod F.
abbrev pub domain_in : Cluster → ℕ → ℕ
domain_in c m = m / c.rack_size % c.feeds

-- What rows 4, 22, 5 and 6 leave of them.
pub record InRange (c : Cluster) : Type 0 where
  pub racks-pos : 1 ≤ c.racks
  pub size-pos : 1 ≤ c.rack_size
  pub feeds-pos : 1 ≤ c.feeds
  pub feeds-divide : c.racks % c.feeds ≡ 0
  pub machines-max : machines_in c ≤ max_machines
  pub capacity-max : c.capacity ≤ max_capacity
  pub blocks-max : c.blocks ≤ max_blocks

-- The numbers of plan p.
abbrev pub cluster_of : Plan → Cluster
cluster_of p =
    record {
      racks = p.racks;
      rack_size = p.rack_size;
      feeds = p.feeds;
      capacity = p.capacity;
      blocks = block_count p;
    }

-- They are those of a valid plan.
pub record ClusterOf (p : Plan) (c : Cluster) : Type 0 where
  pub valid : Valid p
  pub is : c ≡ cluster_of p
