-- What each public call answers, and what the lent buffer holds afterwards, for any bytes and any buffer.
-- A refusal returns its number only and writes nothing.
use Rattle.std.specs.Prelude.{Bool, not, List, ℕ, zero, suc, eqb, length}
use Rattle.order.specs.Table.{filled}
use Rattle.order.specs.Search.{allb}
use Rattle.model.specs.Plan.{Plan, block_count}
use Rattle.model.specs.Refusal.{refuse_if, check12, Verdict, refused, accepted, judge}
use Rattle.model.specs.Replication.{largest_share, chosen}
use Rattle.model.specs.Placement.{count_of, all_within, all_spread, all_fit, all_apart, first_word, max_load_of, min_load_of, total_load_of, max_share}
use Rattle.model.specs.Steps.{Step, next_step, after, run}

-- A refusal code, or the call's own answer.
pub data Answer (A : Type 0) : Type 0 where
  turned_back : ℕ → Answer A
  answered : A → Answer A

-- The answer, and every item of the lent buffer at exit; the items are numbers but where another type is named.
pub record OutcomeOver (I A : Type 0) : Type 0 where
  pub answer : Answer A
  pub items : List I

abbrev pub Outcome : Type 0 → Type 0
Outcome A = OutcomeOver ℕ A

abbrev pub refuse : {I A : Type 0} → ℕ → List I → OutcomeOver I A
refuse code items = record { answer = turned_back code; items = items }

-- The call where the code is 0, otherwise that refusal.
unfoldable pub unless : {I A : Type 0} → ℕ → List I → OutcomeOver I A → OutcomeOver I A
unless zero items call = call
unless (suc code) items call = refuse (suc code) items

-- A call that is made where neither the plan nor the call's own rows are refused.
unfoldable pub on_plan : {I A : Type 0} → Verdict → List I → (Plan → ℕ) → (Plan → OutcomeOver I A) → OutcomeOver I A
on_plan (refused code) items rows call = refuse code items
on_plan (accepted p) items rows call = unless (rows p) items (call p)

-- Row 12 alone, for a buffer that is only written.
abbrev pub buffer_refusal : List ℕ → Plan → ℕ
buffer_refusal items p = check12 (length items) (block_count p) 0

-- Choosing counts: the largest share, and the chosen counts in the buffer.
unfoldable pub counts_call : List ℕ → List ℕ → Outcome ℕ
counts_call bytes items =
    on_plan (judge bytes) items (buffer_refusal items)
    (λ p. record { answer = answered (largest_share p (chosen p)); items = filled (block_count p) (chosen p) items })

-- Making the first placement: its words in the buffer, and the number of blocks.
unfoldable pub first_call : List ℕ → List ℕ → Outcome ℕ
first_call bytes words =
    on_plan (judge bytes) words (buffer_refusal words)
    (λ p. record { answer = answered (block_count p); items = filled (block_count p) (first_word p) words })

-- Rows 12 to 16 and 18, for a placement handed in, each over all blocks or machines before the next.
-- 14: a block's copies are not its chosen count.
unfoldable pub all_counted : Plan → List ℕ → Bool
all_counted p words = allb (block_count p) (λ i. eqb (count_of p words i) (chosen p i))

unfoldable pub placement_refusal : List ℕ → Plan → ℕ
placement_refusal words p =
    check12 (length words) (block_count p)
    (refuse_if (not (all_within p words)) 13
    (refuse_if (not (all_counted p words)) 14
    (refuse_if (not (all_spread p words)) 15
    (refuse_if (not (all_fit p words)) 16
    (refuse_if (not (all_apart p words)) 18
    0)))))

-- A call on a placement that passes them.
unfoldable pub on_placement : {A : Type 0} → List ℕ → List ℕ → (Plan → Outcome A) → Outcome A
on_placement bytes words call = on_plan (judge bytes) words (placement_refusal words) call

-- Checking a placement never writes; it answers the number of blocks.
unfoldable pub check_call : List ℕ → List ℕ → Outcome ℕ
check_call bytes words =
    on_placement bytes words (λ p. record { answer = answered (block_count p); items = words })

-- The report on a placement: hottest load, coolest load, sum of loads, largest share.
pub record Report : Type 0 where
  pub maximum : ℕ
  pub minimum : ℕ
  pub total : ℕ
  pub top : ℕ

unfoldable pub report_of : Plan → List ℕ → Report
report_of p words =
    record { maximum = max_load_of p words; minimum = min_load_of p words; total = total_load_of p words; top = max_share p words }

unfoldable pub report_call : List ℕ → List ℕ → Outcome Report
report_call bytes words =
    on_placement bytes words (λ p. record { answer = answered (report_of p words); items = words })

-- One step takes the next step, or leaves the words as they were at rest.
unfoldable pub step_call : List ℕ → List ℕ → Outcome Step
step_call bytes words =
    on_placement bytes words
    (λ p. record { answer = answered (next_step p words); items = after words (next_step p words) })

-- A run with a step limit: `rest` or `spent`, and the number of steps taken.
pub record RunReply : Type 0 where
  pub rested : Bool
  pub steps : ℕ

unfoldable pub run_call : List ℕ → List ℕ → ℕ → Outcome RunReply
run_call bytes words limit =
    on_placement bytes words
    (λ p.
    let r = run p limit words in
    record { answer = answered (record { rested = r.rested; steps = r.steps }); items = r.words })
