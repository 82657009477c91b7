-- What the run before the lines says, in the model's terms.
use Rattle.std.specs.Prelude.{◌≡◌, List, ℕ}
use Rattle.model.specs.Plan.{Plan}
use Rattle.model.specs.Replication.{chosen}
use Rattle.model.specs.Placement.{first_placement, max_load_of, min_load_of, total_load_of, max_share}
use Rattle.model.specs.Steps.{run}
use Rattle.cluster.specs.declared.Cluster.{Cluster}
use Rattle.cluster.specs.Blocks.{ProfilesOf, PlacementFits}
use Rattle.balance.specs.Standing.{ran_of}
use Rattle.lines.specs.declared.FirstRun.{FirstRun}

-- The run from the first placement, the profiles at the chosen counts, and the report on the placement after it.
pub record FirstRunAs (p : Plan) (c : Cluster) (limit : ℕ) (profiles words : List ℕ) (r : FirstRun) : Type 0 where
  pub fits : PlacementFits c words profiles
  pub profiles-of : ProfilesOf p (chosen p) c profiles
  pub run_is : ran_of r.ran words ≡ run p limit (first_placement p)
  pub max-is : r.report.max_load ≡ max_load_of p words
  pub min-is : r.report.min_load ≡ min_load_of p words
  pub total-is : r.report.total_load ≡ total_load_of p words
  pub top-is : r.top ≡ max_share p words
