-- Document 01, "Trial plans": those with a star, each on the plan's bytes; loads in the units of document 02, U5.
use Rattle.std.specs.Prelude.{◌≡◌, true, false, List, [], ◌∷◌, ℕ, set}
use Rattle.order.specs.Table.{table}
use Rattle.model.specs.Plan.{machines, plan_in}
use Rattle.model.specs.Refusal.{judge, refused, accepted}
use Rattle.model.specs.Placement.{load}
use Rattle.model.specs.Steps.{none, Move, Swap}
use Rattle.model.specs.Calls.{Outcome, answered, counts_call, first_call, step_call, RunReply, run_call}

-- plan H
unfoldable pub plan-H : List ℕ
plan-H =
    0x42 ∷ 0x50 ∷ 0x4C ∷ 0 ∷ 1 ∷ 2 ∷ 2 ∷ 0 ∷ 3 ∷ 0 ∷ 0 ∷ 0 ∷ 8 ∷ 0 ∷ 3
    ∷ 0 ∷ 0 ∷ 12 ∷ 2 ∷ 2
    ∷ 0 ∷ 0 ∷ 6 ∷ 1 ∷ 1
    ∷ 0 ∷ 0 ∷ 2 ∷ 1 ∷ 1
    ∷ []

-- row 11's example: R, S and C all 1, two blocks of one copy, budget 2
unfoldable pub plan-full : List ℕ
plan-full =
    0x42 ∷ 0x50 ∷ 0x4C ∷ 0 ∷ 1 ∷ 1 ∷ 1 ∷ 0 ∷ 1 ∷ 0 ∷ 0 ∷ 0 ∷ 2 ∷ 0 ∷ 2
    ∷ 0 ∷ 0 ∷ 1 ∷ 1 ∷ 1
    ∷ 0 ∷ 0 ∷ 1 ∷ 1 ∷ 1
    ∷ []

-- Y: R 1, S 2, C 2, budget 3, P 4, 1, 2, least and spread 1
unfoldable pub plan-Y : List ℕ
plan-Y =
    0x42 ∷ 0x50 ∷ 0x4C ∷ 0 ∷ 1 ∷ 1 ∷ 2 ∷ 0 ∷ 2 ∷ 0 ∷ 0 ∷ 0 ∷ 3 ∷ 0 ∷ 3
    ∷ 0 ∷ 0 ∷ 4 ∷ 1 ∷ 1
    ∷ 0 ∷ 0 ∷ 1 ∷ 1 ∷ 1
    ∷ 0 ∷ 0 ∷ 2 ∷ 1 ∷ 1
    ∷ []

-- Z: R 1, S 2, C 2, budget 4, P 5, 4, 1, 2, least and spread 1
unfoldable pub plan-Z : List ℕ
plan-Z =
    0x42 ∷ 0x50 ∷ 0x4C ∷ 0 ∷ 1 ∷ 1 ∷ 2 ∷ 0 ∷ 2 ∷ 0 ∷ 0 ∷ 0 ∷ 4 ∷ 0 ∷ 4
    ∷ 0 ∷ 0 ∷ 5 ∷ 1 ∷ 1
    ∷ 0 ∷ 0 ∷ 4 ∷ 1 ∷ 1
    ∷ 0 ∷ 0 ∷ 1 ∷ 1 ∷ 1
    ∷ 0 ∷ 0 ∷ 2 ∷ 1 ∷ 1
    ∷ []

-- The loads of the machines.
abbrev pub loads : List ℕ → List ℕ → List ℕ
loads bytes words = table (machines (plan_in bytes)) (load (plan_in bytes) words)

-- A call's answer and the items of its buffer afterwards.
abbrev pub gives : {A : Type 0} → A → List ℕ → Outcome A
gives answer items = record { answer = answered answer; items = items }

-- A run's answer: `rest` or `spent`, and its number of steps.
abbrev pub rest : ℕ → RunReply
rest steps = record { rested = true; steps = steps }

abbrev pub spent : ℕ → RunReply
spent steps = record { rested = false; steps = steps }

pub record Trials : Type 0 where
  pub H-accepted : judge plan-H ≡ accepted (plan_in plan-H)
  pub H-counts : counts_call plan-H (0 ∷ 0 ∷ 0 ∷ []) ≡ gives 7560 (4 ∷ 2 ∷ 1 ∷ [])
  pub H-first : first_call plan-H (0 ∷ 0 ∷ 0 ∷ []) ≡ gives 3 (15 ∷ 5 ∷ 2 ∷ [])
  -- H with budget 4, and with budget 3
  pub H-budget4 : counts_call (set plan-H 12 4) (0 ∷ 0 ∷ 0 ∷ []) ≡ gives 15120 (2 ∷ 1 ∷ 1 ∷ [])
  pub H-budget3 : judge (set plan-H 12 3) ≡ refused 10
  -- row 11's example, and with C 2
  pub full : judge plan-full ≡ refused 11
  pub full-accepted : judge (set plan-full 8 2) ≡ accepted (plan_in (set plan-full 8 2))
  pub full-C2 : first_call (set plan-full 8 2) (0 ∷ 0 ∷ []) ≡ gives 2 (1 ∷ 1 ∷ [])
  -- Y from its first placement to rest
  pub Y-first : first_call plan-Y (0 ∷ 0 ∷ 0 ∷ []) ≡ gives 3 (1 ∷ 2 ∷ 1 ∷ [])
  pub Y-loads : loads plan-Y (1 ∷ 2 ∷ 1 ∷ []) ≡ 15120 ∷ 2520 ∷ []
  pub Y-step1 : step_call plan-Y (1 ∷ 2 ∷ 1 ∷ []) ≡ gives (Move 0 0 1) (2 ∷ 2 ∷ 1 ∷ [])
  pub Y-step2 : step_call plan-Y (2 ∷ 2 ∷ 1 ∷ []) ≡ gives (Move 1 1 0) (2 ∷ 1 ∷ 1 ∷ [])
  pub Y-rest : step_call plan-Y (2 ∷ 1 ∷ 1 ∷ []) ≡ gives none (2 ∷ 1 ∷ 1 ∷ [])
  pub Y-rest-loads : loads plan-Y (2 ∷ 1 ∷ 1 ∷ []) ≡ 7560 ∷ 10080 ∷ []
  -- Y with step limits 0, 1 and 2
  pub Y-limit0 : run_call plan-Y (1 ∷ 2 ∷ 1 ∷ []) 0 ≡ gives (spent 0) (1 ∷ 2 ∷ 1 ∷ [])
  pub Y-limit1 : run_call plan-Y (1 ∷ 2 ∷ 1 ∷ []) 1 ≡ gives (spent 1) (2 ∷ 2 ∷ 1 ∷ [])
  pub Y-limit1-loads : loads plan-Y (2 ∷ 2 ∷ 1 ∷ []) ≡ 5040 ∷ 12600 ∷ []
  pub Y-limit2 : run_call plan-Y (1 ∷ 2 ∷ 1 ∷ []) 2 ≡ gives (rest 2) (2 ∷ 1 ∷ 1 ∷ [])
  -- Z from a placement handed in to rest
  pub Z-step1 : step_call plan-Z (1 ∷ 1 ∷ 2 ∷ 2 ∷ []) ≡ gives (Swap 0 0 1 2) (2 ∷ 1 ∷ 1 ∷ 2 ∷ [])
  pub Z-step2 : step_call plan-Z (2 ∷ 1 ∷ 1 ∷ 2 ∷ []) ≡ gives (Swap 1 0 0 1) (1 ∷ 2 ∷ 1 ∷ 2 ∷ [])
  pub Z-run : run_call plan-Z (1 ∷ 1 ∷ 2 ∷ 2 ∷ []) 100_000 ≡ gives (rest 2) (1 ∷ 2 ∷ 1 ∷ 2 ∷ [])
  pub Z-loads : loads plan-Z (1 ∷ 2 ∷ 1 ∷ 2 ∷ []) ≡ 15120 ∷ 15120 ∷ []
