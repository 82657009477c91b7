-- Document 02, U4 and U5: what the converter writes, and for which bytes.
use Rattle.std.specs.Prelude.{◌≡◌, List, [], ◌∷◌, ℕ, ◌<◌, ◌≤◌, length, take}
use Rattle.model.specs.Plan.{Plan, machines, plan_in}
use Rattle.model.specs.Refusal.{judge, accepted}
use Rattle.model.specs.Calls.{refuse, counts_call, first_call}
use Rattle.model.specs.Listing.{input_room, step_limit, printed}
use Rattle.model.specs.Conversion.{converted_version, written_version, with_version, converted, convert_verdict, convert_call}
use Rattle.theory.specs.Writing.{AreBytes}
use Rattle.theorems.specs.Trials.{plan-H, plan-full, gives}
use Rattle.theorems.specs.Versions.{SameAnswers}

-- "A converter writes any accepted version 1 or 2 plan as version 3": it takes exactly those.
pub record OldPlan (bytes : List ℕ) (p : Plan) : Type 0 where
  pub accepts : judge bytes ≡ accepted p
  pub version-max : p.version ≤ converted_version

pub record Takes (bytes : List ℕ) (p : Plan) : Type 0 where
  pub taken : convert_verdict bytes ≡ accepted p → OldPlan bytes p
  pub takes : OldPlan bytes p → convert_verdict bytes ≡ accepted p

-- "And the result has the same fields": it is accepted, and the two plans are equal but for the version. "A converted plan is sure to keep
-- its counts, placement and listing only where M is at most 8": there every call but the converter's answers the same. It is shorter than
-- what a program reads at most.
pub record Converts (bytes : List ℕ) (p : Plan) : Type 0 where
  pub accepts : judge (converted p) ≡ accepted (with_version written_version p)
  pub same : machines p ≤ 8 → SameAnswers written_version bytes (converted p)
  pub fits : length (converted p) < input_room

pub record Conversions : Type 0 where
  pub takes : (bytes : List ℕ) (p : Plan) → Takes bytes p
  pub converts : (bytes : List ℕ) → AreBytes bytes → (p : Plan) → convert_verdict bytes ≡ accepted p → Converts bytes p
  -- An input longer than any plan is judged as its first bytes alone: the program need not read further.
  pub long : (bytes : List ℕ) → input_room ≤ length bytes → convert_verdict (take input_room bytes) ≡ convert_verdict bytes

-- Plan H as version 3: the version, and records of seven bytes.
unfoldable pub wide-H : List ℕ
wide-H =
    0x42 ∷ 0x50 ∷ 0x4C ∷ 0 ∷ 3 ∷ 2 ∷ 2 ∷ 0 ∷ 3 ∷ 0 ∷ 0 ∷ 0 ∷ 8 ∷ 0 ∷ 3
    ∷ 0 ∷ 0 ∷ 0 ∷ 12 ∷ 2 ∷ 2 ∷ 0
    ∷ 0 ∷ 0 ∷ 0 ∷ 6 ∷ 1 ∷ 1 ∷ 0
    ∷ 0 ∷ 0 ∷ 0 ∷ 2 ∷ 1 ∷ 1 ∷ 0
    ∷ []

-- A plan with M above 8: R 3, S 3, C 1, budget 9, one block with P 1, least copies and spread 1; as version 3; and what is printed for
-- either. In version 1 the block gets eight copies, in version 3 nine.
unfoldable pub plan-nine : List ℕ
plan-nine =
    0x42 ∷ 0x50 ∷ 0x4C ∷ 0 ∷ 1 ∷ 3 ∷ 3 ∷ 0 ∷ 1 ∷ 0 ∷ 0 ∷ 0 ∷ 9 ∷ 0 ∷ 1
    ∷ 0 ∷ 0 ∷ 1 ∷ 1 ∷ 1
    ∷ []

unfoldable pub wide-nine : List ℕ
wide-nine =
    0x42 ∷ 0x50 ∷ 0x4C ∷ 0 ∷ 3 ∷ 3 ∷ 3 ∷ 0 ∷ 1 ∷ 0 ∷ 0 ∷ 0 ∷ 9 ∷ 0 ∷ 1
    ∷ 0 ∷ 0 ∷ 0 ∷ 1 ∷ 1 ∷ 1 ∷ 0
    ∷ []

unfoldable pub listing-eight : List ℕ
listing-eight =
    -- plan 3 3 1
    0x70 ∷ 0x6C ∷ 0x61 ∷ 0x6E ∷ 0x20 ∷ 0x33 ∷ 0x20 ∷ 0x33 ∷ 0x20 ∷ 0x31 ∷ 0x0A
    -- block 0 8 315 0 1 2 3 4 5 6 7
    ∷ 0x62 ∷ 0x6C ∷ 0x6F ∷ 0x63 ∷ 0x6B ∷ 0x20 ∷ 0x30 ∷ 0x20 ∷ 0x38 ∷ 0x20 ∷ 0x33 ∷ 0x31 ∷ 0x35 ∷ 0x20 ∷ 0x30 ∷ 0x20 ∷ 0x31 ∷ 0x20 ∷ 0x32 ∷ 0x20 ∷ 0x33 ∷ 0x20 ∷ 0x34 ∷ 0x20 ∷ 0x35 ∷ 0x20 ∷ 0x36 ∷ 0x20 ∷ 0x37 ∷ 0x0A
    -- rest 0 315 0 2520 315
    ∷ 0x72 ∷ 0x65 ∷ 0x73 ∷ 0x74 ∷ 0x20 ∷ 0x30 ∷ 0x20 ∷ 0x33 ∷ 0x31 ∷ 0x35 ∷ 0x20 ∷ 0x30 ∷ 0x20 ∷ 0x32 ∷ 0x35 ∷ 0x32 ∷ 0x30 ∷ 0x20 ∷ 0x33 ∷ 0x31 ∷ 0x35 ∷ 0x0A
    ∷ []

unfoldable pub listing-nine : List ℕ
listing-nine =
    -- plan 3 3 1
    0x70 ∷ 0x6C ∷ 0x61 ∷ 0x6E ∷ 0x20 ∷ 0x33 ∷ 0x20 ∷ 0x33 ∷ 0x20 ∷ 0x31 ∷ 0x0A
    -- block 0 9 280 0 1 2 3 4 5 6 7 8
    ∷ 0x62 ∷ 0x6C ∷ 0x6F ∷ 0x63 ∷ 0x6B ∷ 0x20 ∷ 0x30 ∷ 0x20 ∷ 0x39 ∷ 0x20 ∷ 0x32 ∷ 0x38 ∷ 0x30 ∷ 0x20 ∷ 0x30 ∷ 0x20 ∷ 0x31 ∷ 0x20 ∷ 0x32 ∷ 0x20 ∷ 0x33 ∷ 0x20 ∷ 0x34 ∷ 0x20 ∷ 0x35 ∷ 0x20 ∷ 0x36 ∷ 0x20 ∷ 0x37 ∷ 0x20 ∷ 0x38 ∷ 0x0A
    -- rest 0 280 280 2520 280
    ∷ 0x72 ∷ 0x65 ∷ 0x73 ∷ 0x74 ∷ 0x20 ∷ 0x30 ∷ 0x20 ∷ 0x32 ∷ 0x38 ∷ 0x30 ∷ 0x20 ∷ 0x32 ∷ 0x38 ∷ 0x30 ∷ 0x20 ∷ 0x32 ∷ 0x35 ∷ 0x32 ∷ 0x30 ∷ 0x20 ∷ 0x32 ∷ 0x38 ∷ 0x30 ∷ 0x0A
    ∷ []

-- Its counts, first placement and listing before and after: none of them is kept.
pub record NotKept : Type 0 where
  pub converts : converted (plan_in plan-nine) ≡ wide-nine
  pub counts : counts_call plan-nine (0 ∷ []) ≡ gives 315 (8 ∷ [])
  pub wide-counts : counts_call wide-nine (0 ∷ []) ≡ gives 280 (9 ∷ [])
  pub first : first_call plan-nine (0 ∷ []) ≡ gives 1 (255 ∷ [])
  pub wide-first : first_call wide-nine (0 ∷ []) ≡ gives 1 (511 ∷ [])
  pub listing : printed plan-nine step_limit ≡ listing-eight
  pub wide-listing : printed wide-nine step_limit ≡ listing-nine

-- What it writes for H; a version 3 plan is refused 3; too short a buffer 12, but after 11.
pub record ConversionExamples : Type 0 where
  pub H : converted (plan_in plan-H) ≡ wide-H
  pub again : (buffer : List ℕ) → convert_call wide-H buffer ≡ refuse 3 buffer
  pub short : convert_call plan-H [] ≡ refuse 12 []
  pub full : convert_call plan-full [] ≡ refuse 11 []
