-- The entries' answers and the lent buffer at exit, as the model's outcomes; and what the write of the counts says.
use Rattle.std.specs.Prelude.{true, false, List, ℕ, ◌≤◌, length, Option, Result, Ok, Err}
use Rattle.model.specs.Steps.{Step as ModelStep}
use Rattle.model.specs.Calls.{Outcome, answered, refuse, Report, RunReply}
use Rattle.refusal.specs.declared.Refusal.{Refusal}
use Rattle.refusal.specs.Rows.{number_of}
use Rattle.cluster.specs.declared.Cluster.{Cluster}
use Rattle.loads.specs.declared.LoadReport.{LoadReport}
use Rattle.search.specs.declared.Step.{Step}
use Rattle.search.specs.Scene.{step_of}
use Rattle.balance.specs.declared.Ran.{Ran}
use Rattle.balance.specs.declared.Ran.TheVariants.{Rested, Spent}

-- An answer, with every item at exit.
abbrev answer : {A : Type 0} → A → List ℕ → Outcome A
answer a items = record { answer = answered a; items = items }

unfoldable pub counts_outcome : Result ℕ Refusal → List ℕ → Outcome ℕ
counts_outcome (Err refusal) items = refuse (number_of refusal) items
counts_outcome (Ok top) items = answer top items

unfoldable pub first_outcome : Result ℕ Refusal → List ℕ → Outcome ℕ
first_outcome (Err refusal) words = refuse (number_of refusal) words
first_outcome (Ok blocks) words = answer blocks words

unfoldable pub check_outcome : Result ℕ Refusal → List ℕ → Outcome ℕ
check_outcome (Err refusal) words = refuse (number_of refusal) words
check_outcome (Ok blocks) words = answer blocks words

-- The report's numbers: hottest load, coolest load, sum of loads, largest share.
abbrev pub report_in : LoadReport → ℕ → Report
report_in r top = record { maximum = r.max_load; minimum = r.min_load; total = r.total_load; top = top }

unfoldable pub report_outcome : Result (LoadReport × ℕ) Refusal → List ℕ → Outcome Report
report_outcome (Err refusal) words = refuse (number_of refusal) words
report_outcome (Ok r) words = answer (report_in r.0 r.1) words

unfoldable pub step_outcome : Result (Option Step) Refusal → List ℕ → Outcome ModelStep
step_outcome (Err refusal) words = refuse (number_of refusal) words
step_outcome (Ok step) words = answer (step_of step) words

-- How a run ended, and the number of steps taken.
abbrev pub run_reply : Ran → RunReply
run_reply (Rested steps) = record { rested = true; steps = steps }
run_reply (Spent steps) = record { rested = false; steps = steps }

unfoldable pub run_outcome : Result Ran Refusal → List ℕ → Outcome RunReply
run_outcome (Err refusal) words = refuse (number_of refusal) words
run_outcome (Ok ran) words = answer (run_reply ran) words

-- Room for a count of every block.
pub record WriteAsked (c : Cluster) (profiles counts : List ℕ) : Type 0 where
  pub profile-room : c.blocks ≤ length profiles
  pub count_room : c.blocks ≤ length counts
