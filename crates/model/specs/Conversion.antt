-- Document 02, U4: the converter, which writes any accepted version 1 or 2 plan as version 3.
use Rattle.std.specs.Prelude.{List, [], ℕ, length}
use Rattle.model.specs.Plan.{Plan, mark_in, version_in, plan_in}
use Rattle.model.specs.Refusal.{check1, check2, check3, check12, refusal, Verdict, refused, accepted, verdict}
use Rattle.model.specs.Calls.{Outcome, on_plan}
use Rattle.model.specs.Listing.{refused_line, wrote}
use Rattle.model.specs.Writing.{plan_bytes}

-- The last version that it takes, and the one that it writes.
abbrev pub converted_version : ℕ
converted_version = 2

abbrev pub written_version : ℕ
written_version = 3

-- The same plan in another version.
abbrev pub with_version : ℕ → Plan → Plan
with_version version p =
    record {
      version = version;
      racks = p.racks;
      rack_size = p.rack_size;
      feeds = p.feeds;
      capacity = p.capacity;
      budget = p.budget;
      blocks = p.blocks;
    }

-- The file that it writes for a plan.
unfoldable pub converted : Plan → List ℕ
converted p = plan_bytes (with_version written_version p)

-- "Other versions are refused 3 there", at row 3's place; otherwise the plan's own verdict.
unfoldable pub convert_refusal : List ℕ → ℕ
convert_refusal bytes =
    check1 (length bytes)
    (check2 (mark_in bytes)
    (check3 converted_version (version_in bytes)
    (refusal bytes)))

unfoldable pub convert_verdict : List ℕ → Verdict
convert_verdict bytes = verdict (convert_refusal bytes) (plan_in bytes)

-- 12, after 11: the lent buffer is shorter than the result.
abbrev pub result_refusal : List ℕ → Plan → ℕ
result_refusal buffer p = check12 (length buffer) (length (converted p)) 0

-- Converting into a lent buffer: the result's length, and the result at its beginning; later bytes stay.
unfoldable pub convert_call : List ℕ → List ℕ → Outcome ℕ
convert_call bytes buffer = on_plan (convert_verdict bytes) buffer (result_refusal buffer) (λ p. wrote (converted p) buffer)

-- What the program writes: the new file to standard output; for refused bytes nothing there, and `refused` and the number to standard error.
unfoldable pub converted_output : Verdict → List ℕ
converted_output (refused code) = []
converted_output (accepted p) = converted p

unfoldable pub converted_errors : Verdict → List ℕ
converted_errors (refused code) = refused_line code
converted_errors (accepted p) = []
