-- What steps over the words are given and say, in the model's terms.
use Rattle.std.specs.Prelude.{◌≡◌, true, false, List, ℕ, Option, Some}
use Rattle.model.specs.Plan.{Plan}
use Rattle.model.specs.Steps.{next_step, after_move, after, Run}
use Rattle.cluster.specs.declared.Cluster.{Cluster}
use Rattle.cluster.specs.Blocks.{PlacementFits}
use Rattle.loads.specs.declared.Loads.{Loads}
use Rattle.loads.specs.Loads.{LoadsOf}
use Rattle.index.specs.declared.Index.{Index}
use Rattle.index.specs.Index.{Ordered, Cleared, Indexed}
use Rattle.transfers.specs.Route.{Shift, StepFound}
use Rattle.search.specs.Scene.{step_of}
use Rattle.search.specs.declared.Step.{Step}
use Rattle.balance.specs.declared.Ran.{Ran}
use Rattle.balance.specs.declared.Ran.TheVariants.{Rested, Spent}

-- A placement with its loads and copies.
pub record StepAsked (c : Cluster) (words profiles : List ℕ) (loads : Loads) : Type 0 where
  pub fits : PlacementFits c words profiles
  pub loads-of : LoadsOf c words profiles loads.load loads.copies

-- With an index that has its blocks in order and no placement yet.
pub record OrderedAsked (c : Cluster) (words profiles : List ℕ) (index : Index) (loads : Loads) : Type 0 where
  pub asked : StepAsked c words profiles loads
  pub ordered : Ordered c profiles index
  pub cleared : Cleared index

-- With its index, in which the loads stand.
pub record LookAsked (c : Cluster) (words profiles : List ℕ) (index : Index) (loads : Loads) : Type 0 where
  pub asked : StepAsked c words profiles loads
  pub indexed : Indexed c words profiles index
  pub loads-in : index.loads ≡ loads.load

-- A copy at a placement with these loads that is to pass from m to n.
pub record ShiftAsked (words profiles : List ℕ) (loads : Loads) (m n i : ℕ) : Type 0 where
  pub cluster : Cluster
  pub asked : StepAsked cluster words profiles loads
  pub copy : Shift cluster words m n i

-- It has passed, and the loads are those of the later words, at every such placement.
pub record Shifted (words profiles : List ℕ) (loads : Loads) (m n i : ℕ) (later : List ℕ) (r : Loads) : Type 0 where
  pub words_are : later ≡ after_move words m n i
  pub loads-follow : (c : Cluster) → StepAsked c words profiles loads → Shift c words m n i → StepAsked c later profiles r

-- What was found at a placement with these loads.
pub record FollowAsked (words profiles : List ℕ) (loads : Loads) (step : Step) : Type 0 where
  pub cluster : Cluster
  pub asked : StepAsked cluster words profiles loads
  pub found : StepFound cluster words (step_of (Some step))

-- It is taken, and the loads are those of the later words, at every such placement.
pub record Followed (words profiles : List ℕ) (loads : Loads) (step : Step) (later : List ℕ) (r : Loads) : Type 0 where
  pub words_are : later ≡ after words (step_of (Some step))
  pub loads-follow : (c : Cluster) → StepAsked c words profiles loads → StepFound c words (step_of (Some step)) → StepAsked c later profiles r

-- The next step, taken.
pub record Stepped (p : Plan) (words later : List ℕ) (r : Option Step) : Type 0 where
  pub step_is : step_of r ≡ next_step p words
  pub words_are : later ≡ after words (next_step p words)

-- The answer of a run and the words at exit, as the model's run.
unfoldable pub ran_of : Ran → List ℕ → Run
ran_of (Rested steps) words = record { rested = true; steps = steps; words = words }
ran_of (Spent steps) words = record { rested = false; steps = steps; words = words }
