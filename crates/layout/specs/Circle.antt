-- What the position cursor says, and what laying down copies is given and says.
use Rattle.std.specs.Prelude.{◌≡◌, List, ℕ, ◌+◌, ◌*◌, ◌/◌, ◌%◌, ◌<◌, ◌≤◌}
use Rattle.model.specs.Plan.{Plan}
use Rattle.model.specs.Replication.{chosen}
use Rattle.model.specs.Placement.{laid_word}
use Rattle.cluster.specs.declared.Cluster.{Cluster}
use Rattle.cluster.specs.Cluster.{machines_in, InRange, ClusterOf}
use Rattle.cluster.specs.Blocks.{ProfilesOf, PlacementFits}
use Rattle.layout.specs.declared.Cursor.{Cursor}
use Rattle.layout.specs.declared.Visit.{Visit}
use Rattle.layout.specs.declared.LaidBlock.{LaidBlock}

-- The cursor at position t: rack t mod R, level t div R.
unfoldable pub cursor_at : Cluster → ℕ → Cursor
cursor_at c t = record { cluster = c; rack = t % c.racks; level = t / c.racks }

-- At position t: machine (t mod R) × S + t div R, and the cursor at the next position.
unfoldable pub visit_at : Cluster → ℕ → Visit
visit_at c t =
    record { machine = t % c.racks * c.rack_size + t / c.racks; cursor = cursor_at c ((t + 1) % machines_in c) }

-- A cursor on the circle of the machines.
pub record OnCircle (c : Cursor) : Type 0 where
  pub in-range : InRange c.cluster
  pub rack-below : c.rack < c.cluster.racks
  pub level-below : c.level < c.cluster.rack_size

-- A cursor on it, and no more copies than machines.
pub record LayAsked (c : Cursor) (count : ℕ) : Type 0 where
  pub circle : OnCircle c
  pub count-max : count ≤ machines_in c.cluster

-- The word that the model lays from the cursor's position on, and the cursor past it.
pub record LaidAs (c : Cursor) (count : ℕ) (r : LaidBlock) : Type 0 where
  pub word-is : (p : Plan) (start : ℕ) → ClusterOf p c.cluster → c ≡ cursor_at c.cluster (start % machines_in c.cluster)
      → r.word ≡ laid_word p start count
  pub cursor-is : (t : ℕ) → t < machines_in c.cluster → c ≡ cursor_at c.cluster t
      → r.cursor ≡ cursor_at c.cluster ((t + count) % machines_in c.cluster)

-- The profiles of some plan's blocks at the chosen counts, and room for its words.
pub record LayAllAsked (c : Cluster) (profiles words : List ℕ) : Type 0 where
  pub fits : PlacementFits c words profiles
  pub plan : Plan
  pub profiles-of : ProfilesOf plan (chosen plan) c profiles
