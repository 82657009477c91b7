-- Document 01, "Why a plan or placement is turned back", and document 02, U1, U6 and U7: the whole order of the checks, for a plan's bytes
-- and the words of a placement handed in. Each row is handed what the later rows say; the first whose condition holds gives the code.
use Rattle.std.specs.Prelude.{not, List, ℕ, length}
use Rattle.model.specs.Plan.{plan_in, places, block_count, min_total, latest_version, mark_in, version_in, racks_in, rack_size_in, feeds_in, capacity_in, block_count_in, format_in}
use Rattle.model.specs.Refusal.{refuse_if, or_else, check1, check2, check3, check4, check22, check5, check6, check7, blocks_refusal, pairs_refusal, check23, check10, check11, check12}
use Rattle.model.specs.Placement.{all_within, all_spread, all_fit, all_apart}
use Rattle.model.specs.Calls.{all_counted}

unfoldable pub checks : List ℕ → List ℕ → ℕ
checks bytes words =
    let p = plan_in bytes in
    check1 (length bytes)
    (check2 (mark_in bytes)
    (check3 latest_version (version_in bytes)
    (check4 (racks_in bytes) (rack_size_in bytes)
    (check22 (racks_in bytes) (feeds_in bytes)
    (check5 (capacity_in bytes)
    (check6 (format_in bytes) (length bytes) (block_count_in bytes)
    (check7 (format_in bytes) (length bytes) (block_count_in bytes)
    -- 8 and 9, block by block
    (or_else (blocks_refusal p)
    -- 17
    (or_else (pairs_refusal p)
    (check23 p.version (places p) p.budget
    (check10 p.budget (min_total p)
    (check11 (places p) (min_total p)
    (check12 (length words) (block_count p)
    (refuse_if (not (all_within p words)) 13
    (refuse_if (not (all_counted p words)) 14
    (refuse_if (not (all_spread p words)) 15
    (refuse_if (not (all_fit p words)) 16
    (refuse_if (not (all_apart p words)) 18
    0))))))))))))))))))
