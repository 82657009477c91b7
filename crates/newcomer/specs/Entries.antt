-- What the check of a new block's entries says.
use Rattle.std.specs.Prelude.{◌≡◌, ℕ}
use Rattle.model.specs.Plan.{Block, Plan}
use Rattle.model.specs.Recordings.{check24}
use Rattle.cluster.specs.declared.Cluster.{Cluster}
use Rattle.cluster.specs.Cluster.{ClusterOf}

-- The code is that of row 24 for every plan of this version and cluster, and for its other rows' 0.
abbrev pub EntriesAs : ℕ → Cluster → Block → ℕ → Type 0
EntriesAs version cluster b r = (p : Plan) → version ≡ p.version → ClusterOf p cluster → r ≡ check24 p b 0
