-- What the reader answers, in the model's terms.
use Rattle.std.specs.Prelude.{Result, Ok, Err}
use Rattle.model.specs.Plan.{Plan}
use Rattle.model.specs.Refusal.{Verdict, refused, accepted}
use Rattle.refusal.specs.declared.Refusal.{Refusal}
use Rattle.refusal.specs.Rows.{number_of}
use Rattle.plan.specs.declared.passed.Accepted.{Accepted}
use Rattle.plan.specs.Reading.{plan_of}

-- The plan that was accepted.
abbrev pub accepted_plan : Accepted → Plan
accepted_plan a = plan_of a.records.bytes.now a.header

-- The reader's answer, as the model's verdict.
unfoldable pub verdict_of : Result Accepted Refusal → Verdict
verdict_of (Err refusal) = refused (number_of refusal)
verdict_of (Ok a) = accepted (accepted_plan a)
