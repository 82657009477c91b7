-- Document 01, "Why a plan or placement is turned back": rows 1 to 12 of its table, and rows 17, 22 and 23 of document 02.
-- A refusal code is the row's number, and 0 where nothing is wrong. Each check is handed the code that the later rows give.
use Rattle.std.specs.Prelude.{Bool, true, false, not, ◌&&◌, ◌||◌, List, ℕ, zero, suc, ◌*◌, ◌%◌, leb, ltb, eqb, length}
use Rattle.order.specs.Search.{first_up}
use Rattle.model.specs.Plan.{Block, Plan, marks_pair, places, domains, block_count, block_of, upper, min_total, common_length, latest_version, mark_in, version_in, racks_in, rack_size_in, feeds_in, capacity_in, block_count_in, Format, format_in, header_length, record_at, plan_in}

-- The row's code where its condition holds, else the later rows' code.
abbrev pub refuse_if : Bool → ℕ → ℕ → ℕ
refuse_if true code later = code
refuse_if false code later = later

-- The first of two codes that is not 0.
abbrev pub or_else : ℕ → ℕ → ℕ
or_else zero later = later
or_else (suc code) later = suc code

abbrev pub is_refusal : ℕ → Bool
is_refusal code = ltb 0 code

-- The limits of rows 2, 4, 5 and 6.
abbrev pub mark : ℕ
mark = 0x42504c

abbrev pub max_machines : ℕ
max_machines = 64

abbrev pub max_capacity : ℕ
max_capacity = 1024

abbrev pub max_blocks : ℕ
max_blocks = 1024

-- 1: shorter than 15 bytes.
unfoldable pub check1 : ℕ → ℕ → ℕ
check1 size = refuse_if (ltb size common_length) 1

-- 2: mark differs.
unfoldable pub check2 : ℕ → ℕ → ℕ
check2 found = refuse_if (not (eqb found mark)) 2

-- 3: a version never described, where 1 to `latest` are.
unfoldable pub check3 : ℕ → ℕ → ℕ → ℕ
check3 latest version = refuse_if (eqb version 0 || ltb latest version) 3

-- 4: R or S is 0, or M above 64.
unfoldable pub check4 : ℕ → ℕ → ℕ → ℕ
check4 racks rack_size = refuse_if (eqb racks 0 || eqb rack_size 0 || ltb max_machines (racks * rack_size)) 4

-- 22: F is 0 or does not divide R.
unfoldable pub check22 : ℕ → ℕ → ℕ → ℕ
check22 racks feeds = refuse_if (eqb feeds 0 || not (eqb (racks % feeds) 0)) 22

-- 5: C is 0 or above 1,024.
unfoldable pub check5 : ℕ → ℕ → ℕ
check5 capacity = refuse_if (eqb capacity 0 || ltb max_capacity capacity) 5

-- 6: B above 1,024. Not judged on a missing byte: a version 4 file of 15 bytes passes.
unfoldable pub check6 : Format → ℕ → ℕ → ℕ → ℕ
check6 f size count = refuse_if (leb (header_length f) size && ltb max_blocks count) 6

-- 7: length not 15 + 5 × B, in version 2 15 + 6 × B, in version 3 15 + 7 × B, in version 4 16 + 7 × B: that of the version's header and
-- B records.
unfoldable pub check7 : Format → ℕ → ℕ → ℕ → ℕ
check7 f size count = refuse_if (not (eqb size (record_at f count))) 7

-- 8: least copies 0 or above the upper count.
unfoldable pub check8 : ℕ → ℕ → ℕ → ℕ
check8 most least = refuse_if (eqb least 0 || ltb most least) 8

-- 9: spread 0, or above least copies, or above R, in version 4 above F: above the failure domains.
unfoldable pub check9 : ℕ → ℕ → ℕ → ℕ → ℕ
check9 all least spread = refuse_if (eqb spread 0 || ltb least spread || ltb all spread) 9

-- 17: a byte is neither 0 nor 1; the last block has 1; two successive blocks have 1; or a pair differs in popularity, least copies or
-- spread. Said of one block and the next, and whether it is the last.
unfoldable pub alike : Block → Block → Bool
alike a b =
    eqb a.popularity b.popularity && eqb a.min_replicas b.min_replicas && eqb a.min_domains b.min_domains

unfoldable pub check17 : Block → Block → Bool → ℕ → ℕ
check17 own next is_last later =
    refuse_if (ltb 1 own.pair_byte) 17
    (refuse_if (marks_pair own && is_last) 17
    (refuse_if (marks_pair own && marks_pair next) 17
    (refuse_if (marks_pair own && not (alike own next)) 17
    later)))

-- 23: a version 4 budget above M × C. Earlier versions are still read, with the smaller of the two.
unfoldable pub check23 : ℕ → ℕ → ℕ → ℕ → ℕ
check23 version room budget = refuse_if (leb 4 version && ltb room budget) 23

-- 10: sum of least copies above the budget.
unfoldable pub check10 : ℕ → ℕ → ℕ → ℕ
check10 budget total = refuse_if (ltb budget total) 10

-- 11: sum of least copies above M × C.
unfoldable pub check11 : ℕ → ℕ → ℕ → ℕ
check11 room total = refuse_if (ltb room total) 11

-- 12: lent buffer has fewer than B items.
unfoldable pub check12 : ℕ → ℕ → ℕ → ℕ
check12 lent count = refuse_if (ltb lent count) 12

-- 8 and 9 are made block by block from block 0, 8 first.
unfoldable pub block_refusal : Plan → ℕ → ℕ
block_refusal p i =
    check8 (upper p i) (block_of p i).min_replicas
    (check9 (domains p) (block_of p i).min_replicas (block_of p i).min_domains
    0)

unfoldable pub blocks_refusal : Plan → ℕ
blocks_refusal p = first_up is_refusal 0 (block_refusal p) (block_count p)

-- 17 is made after 8 and 9 over all blocks.
unfoldable pub pair_refusal : Plan → ℕ → ℕ
pair_refusal p i = check17 (block_of p i) (block_of p (suc i)) (eqb (suc i) (block_count p)) 0

unfoldable pub pairs_refusal : Plan → ℕ
pairs_refusal p = first_up is_refusal 0 (pair_refusal p) (block_count p)

-- 1 to 4, 22 and 5 to 7 are made on the header; then 8 and 9, 17, 23, 10 and 11 on the plan. The whole order: `Checks.antt`.
unfoldable pub plan_refusal : Plan → ℕ
plan_refusal p =
    or_else (blocks_refusal p)
    (or_else (pairs_refusal p)
    (check23 p.version (places p) p.budget
    (check10 p.budget (min_total p)
    (check11 (places p) (min_total p)
    0))))

unfoldable pub refusal : List ℕ → ℕ
refusal bytes =
    check1 (length bytes)
    (check2 (mark_in bytes)
    (check3 latest_version (version_in bytes)
    (check4 (racks_in bytes) (rack_size_in bytes)
    (check22 (racks_in bytes) (feeds_in bytes)
    (check5 (capacity_in bytes)
    (check6 (format_in bytes) (length bytes) (block_count_in bytes)
    (check7 (format_in bytes) (length bytes) (block_count_in bytes)
    (plan_refusal (plan_in bytes)))))))))

-- What a plan's bytes are: turned back with a code, or a plan.
pub data Verdict : Type 0 where
  refused : ℕ → Verdict
  accepted : Plan → Verdict

abbrev pub verdict : ℕ → Plan → Verdict
verdict zero p = accepted p
verdict (suc code) p = refused (suc code)

unfoldable pub judge : List ℕ → Verdict
judge bytes = verdict (refusal bytes) (plan_in bytes)

-- The code of a verdict: 0 for an accepted plan.
unfoldable pub verdict_code : Verdict → ℕ
verdict_code (refused code) = code
verdict_code (accepted p) = 0
