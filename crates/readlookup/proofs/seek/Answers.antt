-- `readlookup::seek` meets its contract: the reader's verdict, and then check 19.
-- Assumes nothing.
use Rattle.std.proofs.Common.{◌≡◌, ℕ, List, ap, ◌∙◌, lt-ltb, le-ltb}
use Rattle.std.proofs.lemmas.Result.{err_from_is_err_and}
use Rattle.model.specs.Plan.{Plan}
use Rattle.model.specs.Refusal.{accepted, judge}
use Rattle.model.specs.Calls.{turned_back, answered}
use Rattle.plan.specs.Verdict.{accepted_plan, verdict_of}
use Rattle.plan.proofs.Laws.{plan_of-blocks}
use Rattle.readlookup.specs.Lookup.{sought_in, sought}
use Rattle.readlookup.proofs.seek.Goals as goal

-- of an accepted plan
sought-accepted : (bytes : List ℕ) (p : Plan) (block : ℕ) → accepted p ≡ judge bytes → sought_in p block ≡ sought (judge bytes) block
unfolding sought
sought-accepted bytes p block is = ap (λ v. sought v block) is

pub returns-in_err-plan : goal.returns-in_err-plan
unfolding sought verdict_of
returns-in_err-plan c =
    let p = err_from_is_err_and c.from_residual.result c.from_residual.ensures.1 in
    rw (p.1, p.2) (ap (λ v. sought v c.args.block) c.in_err-plan.ensures.judged)

pub returns-then-i-plan : goal.returns-then-i-plan
unfolding sought_in verdict_of
returns-then-i-plan c =
    let here : turned_back 19 ≡ sought_in (accepted_plan c.in_ok-plan.plan) c.args.block
    = rw (plan_of-blocks _ _, le-ltb _ _ c.if-i-plan.true) in
    here ∙ sought-accepted _ _ _ c.in_ok-plan.ensures.judged

pub returns : goal.returns
unfolding sought_in verdict_of
returns c =
    let here : answered c.mate.result ≡ sought_in (accepted_plan c.in_ok-plan.plan) c.args.block
    = rw (plan_of-blocks _ _, lt-ltb _ _ c.if-i-plan.false, c.mate.ensures.0) in
    here ∙ sought-accepted _ _ _ c.in_ok-plan.ensures.judged
