-- The report on a placement's sums is the plan's: hottest load, coolest load, sum of loads.
-- Assumes nothing.
use mathlib.Core.Path.{◌≡◌, ◌∙◌}
use mathlib.Core.List.{List}
use Prim.Native.Nat.{ℕ, ◌<◌}
use native.Mathlib.Nat.{mul-pos}
use lib.ListN.{get_or}
use Rattle.order.proofs.Sums.{sum-cong}
use Rattle.order.proofs.Extremes.{largest-cong, smallest-cong}
use Rattle.model.specs.Plan.{Plan, machines}
use Rattle.model.specs.Placement.{load, max_load_of, min_load_of, total_load_of}
use Rattle.cluster.specs.declared.Cluster.{Cluster}
use Rattle.cluster.specs.Blocks.{PlacementOf}
use Rattle.cluster.proofs.Laws.{cluster-machines}
use Rattle.loads.specs.declared.Loads.{Loads}
use Rattle.loads.specs.declared.LoadReport.{LoadReport}
use Rattle.loads.specs.Loads.{LoadsOf, ReportOf}
use Rattle.loads.proofs.Laws.{loads-load}

module _ (p : Plan) (count : ℕ → ℕ) (c : Cluster) (words profiles : List ℕ) (l : Loads) (r : LoadReport)
    (placement : PlacementOf p count c words profiles) (of : LoadsOf c words profiles l.load l.copies) (report : ReportOf l c r) where
  same : (m : ℕ) → m < machines p → get_or l.load m 0 ≡ load p words m
  same m lt =
      loads-load c words profiles l.load l.copies of p count placement m
      (rw (cluster-machines p c placement.profiles-of.cluster) lt)

  pub report-max : r.max_load ≡ max_load_of p words
  unfolding max_load_of
  report-max =
      (rw (cluster-machines p c placement.profiles-of.cluster) at report.max-is) ∙ largest-cong (machines p) _ _ same

  pub report-min : r.min_load ≡ min_load_of p words
  unfolding min_load_of
  report-min =
      let s = placement.profiles-of.cluster.valid.shaped in
      (rw (cluster-machines p c placement.profiles-of.cluster) at report.min-is)
      ∙ smallest-cong (machines p) _ _ (same 0 (mul-pos s.racks-pos s.size-pos)) same

  pub report-total : r.total_load ≡ total_load_of p words
  unfolding total_load_of
  report-total =
      (rw (cluster-machines p c placement.profiles-of.cluster) at report.total-is) ∙ sum-cong (machines p) _ _ same
