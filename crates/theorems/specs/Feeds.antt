-- Document 02, U6: what a version 4 file says beyond the earlier ones: the file of 15 bytes, and small examples on feeds.
use Rattle.std.specs.Prelude.{◌≡◌, List, [], ◌∷◌, ℕ, length, set, take}
use Rattle.model.specs.Plan.{mark_in, version_in, racks_in, rack_size_in, feeds_in, capacity_in, plan_in}
use Rattle.model.specs.Refusal.{mark, check4, check22, check5, refusal, judge, refused, accepted}
use Rattle.model.specs.Steps.{RackMove}
use Rattle.model.specs.Calls.{first_call, step_call, check_call}
use Rattle.theorems.specs.Trials.{gives}
use Rattle.theorems.specs.RowExamples.{TurnsBack}

-- A version 4 file of 15 bytes passes 6 and gets 7, whatever its last byte; 4, 22 and 5 are judged on the bytes that are there.
abbrev pub ShortFile : Type 0
ShortFile =
    (bytes : List ℕ) → length bytes ≡ 15 → mark_in bytes ≡ mark → version_in bytes ≡ 4
    → refusal bytes
    ≡ check4 (racks_in bytes) (rack_size_in bytes)
    (check22 (racks_in bytes) (feeds_in bytes)
    (check5 (capacity_in bytes)
    7))

-- R 4, S 1, F 2, C 2, budget 3; P 6 and 2, least copies and spread 2 and 1. F is at 7, C at 8. Machines 0 and 2 hang on one feed, 1 and 3
-- on the other.
unfoldable pub plan-feeds : List ℕ
plan-feeds =
    0x42 ∷ 0x50 ∷ 0x4C ∷ 0 ∷ 4 ∷ 4 ∷ 1 ∷ 2 ∷ 0 ∷ 2 ∷ 0 ∷ 0 ∷ 0 ∷ 3 ∷ 0 ∷ 2
    ∷ 0 ∷ 0 ∷ 0 ∷ 6 ∷ 2 ∷ 2 ∷ 0
    ∷ 0 ∷ 0 ∷ 0 ∷ 2 ∷ 1 ∷ 1 ∷ 0
    ∷ []

abbrev pub feeds-with : ℕ → ℕ → List ℕ
feeds-with at byte = set plan-feeds at byte

pub record FeedExamples : Type 0 where
  -- 22: F is 0, or does not divide R
  pub row22-zero : judge (feeds-with 7 0) ≡ refused 22
  pub row22-three : judge (feeds-with 7 3) ≡ refused 22
  pub row22-above : judge (feeds-with 7 8) ≡ refused 22
  pub two : judge plan-feeds ≡ accepted (plan_in plan-feeds)
  pub all-racks : judge (feeds-with 7 4) ≡ accepted (plan_in (feeds-with 7 4))
  -- 22 comes after 4 and before 5
  pub after-four : judge (set (feeds-with 5 0) 7 0) ≡ refused 4
  pub before-five : judge (set (feeds-with 7 3) 9 0) ≡ refused 22
  -- the file of 15 bytes: 255 × 256 blocks are not refused 6, and 22 and 5 come first
  pub short : judge (set (take 15 plan-feeds) 14 255) ≡ refused 7
  pub short-feeds : judge (set (set (take 15 plan-feeds) 14 255) 7 3) ≡ refused 22
  pub short-capacity : judge (set (set (take 15 plan-feeds) 14 255) 9 0) ≡ refused 5
  -- 9 compares with F
  pub row9 : judge (feeds-with 7 1) ≡ refused 9
  -- the first placement lies in both feeds
  pub first : first_call plan-feeds (0 ∷ 0 ∷ []) ≡ gives 2 (3 ∷ 4 ∷ [])
  -- 15 counts feeds: two racks of one feed are one
  pub row15 : TurnsBack plan-feeds (5 ∷ 4 ∷ []) 15
  pub spread-met : check_call (feeds-with 7 4) (5 ∷ 4 ∷ []) ≡ gives 2 (5 ∷ 4 ∷ [])
  -- a step between two racks of one feed is a RackMove
  pub one-feed : step_call plan-feeds (3 ∷ 1 ∷ []) ≡ gives (RackMove 0 0 2) (6 ∷ 1 ∷ [])
  -- block 0 must not leave its feed, so block 1 goes; with a feed for each rack it goes
  pub feed-kept : step_call plan-feeds (12 ∷ 8 ∷ []) ≡ gives (RackMove 3 1 0) (12 ∷ 1 ∷ [])
  pub feed-left : step_call (feeds-with 7 4) (12 ∷ 8 ∷ []) ≡ gives (RackMove 3 0 0) (5 ∷ 8 ∷ [])
