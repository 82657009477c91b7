-- How an entry's outcome follows from what the way in says: refused with its code, or the call's own work on the plan.
-- Assumes nothing.
use mathlib.Core.Path.{◌≡◌, ap, sym, ◌∙◌}
use mathlib.Core.List.{List}
use Prim.Native.Nat.{ℕ}
use lib.ListN.{length, get_or}
use Rattle.order.specs.Table.{filled}
use Rattle.order.proofs.Tables.{filled-cong}
use Rattle.model.specs.Plan.{Plan, block_count}
use Rattle.model.specs.Refusal.{judge}
use Rattle.model.specs.Replication.{chosen}
use Rattle.model.specs.Steps.{Run}
use Rattle.model.specs.Placement.{count_of}
use Rattle.model.specs.Calls.{Outcome, answered, refuse, on_plan, buffer_refusal, placement_refusal, on_placement, report_of, RunReply}
use Rattle.theory.specs.Calls.{call_refusal}
use Rattle.theory.proofs.Calls.{on_plan-refused, on_plan-made}
use Rattle.theory.proofs.Refusal.{check12-enough}
use Rattle.theory.proofs.Replication.{chosen-counts}
use Rattle.theory.proofs.Placement.{max_share-feasible}
use Rattle.refusal.specs.declared.Refusal.{Refusal}
use Rattle.refusal.specs.Rows.{number_of}
use Rattle.refusal.proofs.Laws.{number_of-pos}
use Rattle.cluster.specs.Blocks.{count_in}
use Rattle.cluster.proofs.Laws.{cluster-blocks, profiles-count}
use Rattle.loads.specs.declared.LoadReport.{LoadReport}
use Rattle.loads.specs.Loads.{ReportOf}
use Rattle.loads.proofs.PlanLoads.{report-max, report-min, report-total}
use Rattle.admission.specs.declared.Intake.{Intake}
use Rattle.admission.specs.declared.Placement.{Placement}
use Rattle.admission.specs.Admission.{lent_refusal, PlanReady, PlacementReady}
use Rattle.balance.specs.declared.Ran.{Ran}
use Rattle.balance.specs.declared.Ran.TheVariants.{Rested, Spent}
use Rattle.balance.specs.Standing.{ran_of}
use Rattle.service.specs.Entries.{report_in, run_reply}

-- a call on a plan with a lent buffer: refused with the number of the row, or made
module _ {A : Type 0} (bytes items : List ℕ) (call : Plan → Outcome A) where
  pub plan-refused : (refusal : Refusal) → number_of refusal ≡ call_refusal (judge bytes) (lent_refusal (length items))
      → refuse (number_of refusal) items ≡ on_plan (judge bytes) items (buffer_refusal items) call
  plan-refused refusal e =
      sym (on_plan-refused items (buffer_refusal items) call (judge bytes) (number_of refusal) (sym e) (number_of-pos refusal))

  pub plan-made : (profiles : List ℕ) (r : Intake) (ready : PlanReady bytes (length items) profiles r)
      → call ready.plan ≡ on_plan (judge bytes) items (buffer_refusal items) call
  plan-made profiles r ready =
      sym (on_plan-made items (buffer_refusal items) call (judge bytes) ready.plan ready.reads (check12-enough _ _ 0 ready.enough))

-- a call on a placement
module _ {A : Type 0} (bytes words : List ℕ) (call : Plan → Outcome A) where
  pub placement-refused : (refusal : Refusal) → number_of refusal ≡ call_refusal (judge bytes) (placement_refusal words)
      → refuse (number_of refusal) words ≡ on_placement bytes words call
  unfolding on_placement
  placement-refused refusal e =
      sym (on_plan-refused words (placement_refusal words) call (judge bytes) (number_of refusal) (sym e) (number_of-pos refusal))

  pub placement-made : (profiles : List ℕ) (r : Placement) (ready : PlacementReady bytes words profiles r) → call ready.plan ≡ on_placement bytes words call
  unfolding on_placement
  placement-made profiles r ready = sym (on_plan-made words (placement_refusal words) call (judge bytes) ready.plan ready.reads ready.passes)

-- the counts that were written are the chosen ones
pub counts-are : (bytes items profiles : List ℕ) (lent : ℕ) (r : Intake) (ready : PlanReady bytes lent profiles r)
    → filled r.cluster.blocks (λ i. count_in (get_or profiles i 0)) items ≡ filled (block_count ready.plan) (chosen ready.plan) items
counts-are bytes items profiles lent r ready =
    let p = ready.plan in
    let of = ready.prepared.profiles-of in
    filled-cong r.cluster.blocks _ _ items
    (profiles-count p (chosen p) r.cluster profiles of (chosen-counts p of.cluster.valid).feasible.at_most)
    ∙ ap (λ (n : ℕ). filled n (chosen p) items) (cluster-blocks p r.cluster of.cluster)

-- the loads that were summed make the report
pub report-is : (bytes words profiles : List ℕ) (r : Placement) (ready : PlacementReady bytes words profiles r) (report : LoadReport)
    → ReportOf r.loads r.cluster report → report_in report r.top ≡ report_of ready.plan words
unfolding report_of
report-is bytes words profiles r ready report of =
    let p = ready.plan in
    let c = r.cluster in
    let e1 = report-max p (count_of p words) c words profiles r.loads report ready.placement ready.loads-of of in
    let e2 = report-min p (count_of p words) c words profiles r.loads report ready.placement ready.loads-of of in
    let e3 = report-total p (count_of p words) c words profiles r.loads report ready.placement ready.loads-of of in
    let e4 = ready.prepared.top-is ∙ max_share-feasible p (count_of p words) words ready.placement.feasible in
    λ i. record { maximum = e1 i; minimum = e2 i; total = e3 i; top = e4 i }

-- the outcome of the model's run
abbrev ended : Run → Outcome RunReply
ended r = record { answer = answered (record { rested = r.rested; steps = r.steps }); items = r.words }

-- a run's answer is the model's
pub run-is : (ran : Ran) (words : List ℕ) (r : Run) → ran_of ran words ≡ r
    → ◌≡◌ {A = Outcome RunReply}
    (record { answer = answered (run_reply ran); items = words })
    (record { answer = answered (record { rested = r.rested; steps = r.steps }); items = r.words })
unfolding ran_of
run-is (Rested steps) words r e = ap ended e
run-is (Spent steps) words r e = ap ended e
