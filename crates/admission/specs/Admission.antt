-- What the way in says, in the model's terms: the refusal of a call, and where there is none what the call works with.
use Rattle.std.specs.Prelude.{◌≡◌, List, ℕ, ◌≤◌, Result, Ok, Err}
use Rattle.model.specs.Plan.{Plan, block_count}
use Rattle.model.specs.Refusal.{check12, judge, accepted}
use Rattle.model.specs.Replication.{largest_share, chosen}
use Rattle.model.specs.Placement.{count_of}
use Rattle.model.specs.Calls.{placement_refusal}
use Rattle.theory.specs.Calls.{call_refusal}
use Rattle.refusal.specs.declared.Refusal.{Refusal}
use Rattle.refusal.specs.Rows.{number_of}
use Rattle.cluster.specs.declared.Cluster.{Cluster}
use Rattle.cluster.specs.Blocks.{DemandsFit, DemandsOf, CountsFit, ProfilesFit, ProfilesOf, PlacementFits, PlacementOf}
use Rattle.plan.specs.declared.passed.Accepted.{Accepted}
use Rattle.plan.specs.Verdict.{accepted_plan}
use Rattle.replication.specs.Choice.{LimitedDemands}
use Rattle.loads.specs.Loads.{LoadsOf}
use Rattle.validation.specs.Validation.{layout_refusal}
use Rattle.admission.specs.declared.Intake.{Intake}
use Rattle.admission.specs.declared.Placement.{Placement}

-- The demands of plan p's blocks, in their ranges, and the most copies that it allows in all.
pub record Demanded (p : Plan) (c : Cluster) (demands : List ℕ) (allowed : ℕ) : Type 0 where
  pub fit : DemandsFit c demands
  pub limited : LimitedDemands p c demands allowed

-- The profiles of plan p's blocks at these counts, in their ranges, and the largest share.
pub record Prepared (p : Plan) (count : ℕ → ℕ) (c : Cluster) (profiles : List ℕ) (top : ℕ) : Type 0 where
  pub profiles-of : ProfilesOf p count c profiles
  pub fit : ProfilesFit c profiles
  pub top-is : top ≡ largest_share p count

abbrev pub PreparedChosen : Plan → Cluster → List ℕ → ℕ → Type 0
PreparedChosen p = Prepared p (chosen p)

-- Row 12 with so many items lent.
abbrev pub lent_refusal : ℕ → Plan → ℕ
lent_refusal lent p = check12 lent (block_count p) 0

-- The bytes' plan, which passes rows 1 to 12, 17, 22 and 23 with so many items lent.
pub record EnteredAs (bytes : List ℕ) (lent : ℕ) (a : Accepted) : Type 0 where
  pub reads : judge bytes ≡ accepted (accepted_plan a)
  pub enough : block_count (accepted_plan a) ≤ lent

-- Else the number of the first row that refuses.
abbrev pub Entered : List ℕ → ℕ → Result Accepted Refusal → Type 0
Entered bytes lent (Err refusal) = number_of refusal ≡ call_refusal (judge bytes) (lent_refusal lent)
Entered bytes lent (Ok a) = EnteredAs bytes lent a

-- A plan that passes rows 1 to 12, 17, 22 and 23 with so many items lent.
pub record PlanReady (bytes : List ℕ) (lent : ℕ) (profiles : List ℕ) (r : Intake) : Type 0 where
  pub plan : Plan
  pub reads : judge bytes ≡ accepted plan
  pub enough : block_count plan ≤ lent
  pub prepared : PreparedChosen plan r.cluster profiles r.top

-- Else the number of the first row that refuses.
abbrev pub Admitted : List ℕ → ℕ → List ℕ → Result Intake Refusal → Type 0
Admitted bytes lent profiles (Err refusal) = number_of refusal ≡ call_refusal (judge bytes) (lent_refusal lent)
Admitted bytes lent profiles (Ok r) = PlanReady bytes lent profiles r

-- Words that have passed rows 13 and 14, with the demands of some plan.
pub record CountedAsked (c : Cluster) (words demands : List ℕ) : Type 0 where
  pub fit : CountsFit c words demands
  pub plan : Plan
  pub demands-of : DemandsOf plan c demands

-- Words of plan p that pass rows 15, 16 and 18: the profiles, loads and copies at the counts held, whatever they are.
pub record WeighedAs (p : Plan) (c : Cluster) (words profiles : List ℕ) (r : Placement) : Type 0 where
  pub passes : layout_refusal p words ≡ 0
  pub cluster-is : r.cluster ≡ c
  pub prepared : Prepared p (count_of p words) r.cluster profiles r.top
  pub loads-of : LoadsOf r.cluster words profiles r.loads.load r.loads.copies

-- Words of plan p that have passed rows 13 and 14: what was weighed, or the number of the first of rows 15, 16 and 18 that refuses.
abbrev pub Weighed : Plan → Cluster → List ℕ → List ℕ → Result Placement Refusal → Type 0
Weighed p c words profiles (Err refusal) = number_of refusal ≡ layout_refusal p words
Weighed p c words profiles (Ok r) = WeighedAs p c words profiles r

-- A placement that passes rows 12 to 16 and 18: lawful at the counts held, which are the chosen ones, with its loads and copies.
pub record PlacementReady (bytes words profiles : List ℕ) (r : Placement) : Type 0 where
  pub plan : Plan
  pub reads : judge bytes ≡ accepted plan
  pub passes : placement_refusal words plan ≡ 0
  pub prepared : Prepared plan (count_of plan words) r.cluster profiles r.top
  pub fits : PlacementFits r.cluster words profiles
  pub placement : PlacementOf plan (count_of plan words) r.cluster words profiles
  pub loads-of : LoadsOf r.cluster words profiles r.loads.load r.loads.copies

-- Else the number of the first row that refuses.
abbrev pub PlacementAdmitted : List ℕ → List ℕ → List ℕ → Result Placement Refusal → Type 0
PlacementAdmitted bytes words profiles (Err refusal) = number_of refusal ≡ call_refusal (judge bytes) (placement_refusal words)
PlacementAdmitted bytes words profiles (Ok r) = PlacementReady bytes words profiles r
