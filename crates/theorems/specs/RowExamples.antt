-- Document 01, "Why a plan or placement is turned back": the small examples of its table, each on the plan's bytes; and those of rows
-- 17 and 18, of document 02, U1, and of the most copies by version, U5.
use Rattle.std.specs.Prelude.{◌≡◌, List, [], ◌∷◌, ℕ, set, take}
use Rattle.model.specs.Plan.{plan_in}
use Rattle.model.specs.Refusal.{judge, refused, accepted}
use Rattle.model.specs.Calls.{refuse, counts_call, first_call, check_call}
use Rattle.theorems.specs.Trials.{plan-H, plan-full, gives}

-- H with another byte at a place.
abbrev pub H-with : ℕ → ℕ → List ℕ
H-with at byte = set plan-H at byte

-- A pair and a block more, version 2: R 2, S 2, C 3, budget 8; P 6, 6 and 2, least copies and spread 1. The pair bytes are at 20, 26
-- and 32.
unfoldable pub plan-pair : List ℕ
plan-pair =
    0x42 ∷ 0x50 ∷ 0x4C ∷ 0 ∷ 2 ∷ 2 ∷ 2 ∷ 0 ∷ 3 ∷ 0 ∷ 0 ∷ 0 ∷ 8 ∷ 0 ∷ 3
    ∷ 0 ∷ 0 ∷ 6 ∷ 1 ∷ 1 ∷ 1
    ∷ 0 ∷ 0 ∷ 6 ∷ 1 ∷ 1 ∷ 0
    ∷ 0 ∷ 0 ∷ 2 ∷ 1 ∷ 1 ∷ 0
    ∷ []

abbrev pub pair-with : ℕ → ℕ → List ℕ
pair-with at byte = set plan-pair at byte

-- A pair and a block more with ten copies each, version 3: R 1, S 24, C 2, budget 30; P 1, least copies 10, spread 1. The least copies
-- are at 19, 26 and 33.
unfoldable pub plan-ten : List ℕ
plan-ten =
    0x42 ∷ 0x50 ∷ 0x4C ∷ 0 ∷ 3 ∷ 1 ∷ 24 ∷ 0 ∷ 2 ∷ 0 ∷ 0 ∷ 0 ∷ 30 ∷ 0 ∷ 3
    ∷ 0 ∷ 0 ∷ 0 ∷ 1 ∷ 10 ∷ 1 ∷ 1
    ∷ 0 ∷ 0 ∷ 0 ∷ 1 ∷ 10 ∷ 1 ∷ 0
    ∷ 0 ∷ 0 ∷ 0 ∷ 1 ∷ 10 ∷ 1 ∷ 0
    ∷ []

-- A placement handed in is turned back with the code.
abbrev pub TurnsBack : List ℕ → List ℕ → ℕ → Type 0
TurnsBack bytes words code = check_call bytes words ≡ refuse code words

-- Each example with the number that its row gives, in the rows' order.
pub record RowExamples : Type 0 where
  pub row1 : judge [] ≡ refused 1
  pub row2 : judge (H-with 0 0) ≡ refused 2
  -- versions that are never described
  pub row3 : judge (H-with 4 5) ≡ refused 3
  pub row3-zero : judge (H-with 4 0) ≡ refused 3
  pub row4 : judge (set (H-with 5 13) 6 5) ≡ refused 4
  pub row5 : judge (H-with 8 0) ≡ refused 5
  pub row6 : judge (set (H-with 13 4) 14 1) ≡ refused 6
  pub row7 : judge (take 29 plan-H) ≡ refused 7
  -- H's bytes are too few for version 2
  pub row7-version : judge (H-with 4 2) ≡ refused 7
  pub row8 : judge (H-with 23 5) ≡ refused 8
  pub row9 : judge (H-with 19 3) ≡ refused 9
  pub row10 : judge (H-with 12 3) ≡ refused 10
  pub row11 : judge plan-full ≡ refused 11
  pub row12 : TurnsBack plan-H (15 ∷ 5 ∷ []) 12
  pub row13 : TurnsBack plan-H (15 ∷ 5 ∷ 16 ∷ []) 13
  pub row14 : TurnsBack plan-H (15 ∷ 1 ∷ 2 ∷ []) 14
  pub row15 : TurnsBack (H-with 12 4) (3 ∷ 4 ∷ 8 ∷ []) 15
  pub row16 : TurnsBack (H-with 8 2) (15 ∷ 3 ∷ 1 ∷ []) 16
  -- 17: a byte above 1; the last block has 1; two successive blocks have 1; a pair differs in popularity, least copies or spread
  pub row17-byte : judge (pair-with 32 2) ≡ refused 17
  pub row17-last : judge (pair-with 32 1) ≡ refused 17
  pub row17-successive : judge (pair-with 26 1) ≡ refused 17
  pub row17-popularity : judge (pair-with 23 7) ≡ refused 17
  pub row17-copies : judge (pair-with 24 2) ≡ refused 17
  pub row17-spread : judge (set (set (pair-with 18 2) 24 2) 25 2) ≡ refused 17
  pub row18 : TurnsBack plan-pair (5 ∷ 6 ∷ 1 ∷ []) 18
  -- a paired block has at most half of the machines, its second block too; a byte of 2 pairs nothing
  pub row8-first : judge (pair-with 18 3) ≡ refused 8
  pub row8-second : judge (pair-with 24 3) ≡ refused 8
  pub row8-byte : judge (set (pair-with 20 2) 18 3) ≡ refused 17
  -- version 1 on nine machines: eight copies pass, nine do not
  pub row8-eight : judge (set (set plan-full 6 9) 18 8) ≡ refused 10
  pub row8-nine : judge (set (set plan-full 6 9) 18 9) ≡ refused 8
  -- version 3 on 24 machines: ten copies pass, of a pair too, and eleven do not; on 18 a pair has at most nine
  pub row8-ten : judge plan-ten ≡ accepted (plan_in plan-ten)
  pub row8-eleven : judge (set plan-ten 33 11) ≡ refused 8
  pub row8-eleven-paired : judge (set plan-ten 19 11) ≡ refused 8
  pub row8-half : judge (set plan-ten 6 18) ≡ refused 8
  -- 17 comes after 9 of a later block, and before 10
  pub after-nine : judge (set (pair-with 20 2) 31 0) ≡ refused 9
  pub before-ten : judge (set (pair-with 32 1) 12 2) ≡ refused 17
  pub ten : judge (pair-with 12 2) ≡ refused 10
  -- the plan itself: both blocks of the pair have two copies each, on machines 0 and 2, and 1 and 3
  pub pair-counts : counts_call plan-pair (0 ∷ 0 ∷ 0 ∷ []) ≡ gives 7560 (2 ∷ 2 ∷ 1 ∷ [])
  pub pair-first : first_call plan-pair (0 ∷ 0 ∷ 0 ∷ []) ≡ gives 3 (5 ∷ 10 ∷ 1 ∷ [])
  pub pair-passes : check_call plan-pair (5 ∷ 10 ∷ 1 ∷ []) ≡ gives 3 (5 ∷ 10 ∷ 1 ∷ [])
  -- 8 comes before 9 within a block, but block 0's 9 before block 1's 8
  pub within_block : judge (set (H-with 18 5) 19 0) ≡ refused 8
  pub block-by-block : judge (set (H-with 19 3) 23 5) ≡ refused 9
  -- H is accepted, with its fields
  pub H : judge plan-H
      ≡ accepted
      (record {
        version = 1;
        racks = 2;
        rack_size = 2;
        feeds = 2;
        capacity = 3;
        budget = 8;
        blocks =
            record { popularity = 12; min_replicas = 2; min_domains = 2; pair_byte = 0 }
            ∷ record { popularity = 6; min_replicas = 1; min_domains = 1; pair_byte = 0 }
            ∷ record { popularity = 2; min_replicas = 1; min_domains = 1; pair_byte = 0 }
            ∷ [];
      })
