-- Document 01, "Listing of the program": the bytes that it prints, in ASCII, and the calls that make them in a lent text.
use Rattle.std.specs.Prelude.{Bool, true, false, cond, List, [], ◌∷◌, ◌++◌, ℕ, zero, suc, ◌+◌, ◌/◌, ◌%◌, ltb, eqb, length, drop}
use Rattle.order.specs.Table.{joined}
use Rattle.model.specs.Plan.{Plan, machines, block_count, latest_version, format_of, record_at}
use Rattle.model.specs.Refusal.{refuse_if, max_blocks, Verdict, refused, accepted, judge}
use Rattle.model.specs.Placement.{bit, word_of, count_of, share_of, first_placement}
use Rattle.model.specs.Steps.{Run, run}
use Rattle.model.specs.Calls.{Outcome, answered, unless, on_plan, report_of}

-- The digits of n, the lowest last; the first argument bounds their number.
unfoldable pub digits : ℕ → ℕ → List ℕ
digits zero n = []
digits (suc more) n =
    let low = (48 + n % 10) ∷ [] in
    let all = digits more (n / 10) ++ low in
    cond (ltb n 10) low all

-- A number in decimal without leading zeros, `0` for 0.
unfoldable pub decimal : ℕ → List ℕ
decimal n = digits (suc n) n

-- One space parts the fields.
unfoldable pub number_field : ℕ → List ℕ
number_field n = 32 ∷ decimal n

unfoldable pub fields : List ℕ → List ℕ
fields [] = []
fields (n ∷ later) = number_field n ++ fields later

-- Every line ends in one line feed.
abbrev pub line_end : List ℕ
line_end = 10 ∷ []

-- A line: its word and its fields.
unfoldable pub line : List ℕ → List ℕ → List ℕ
line word numbers = word ++ fields numbers ++ line_end

-- `plan`, `block`, `rest`, `spent` and `refused`
abbrev pub plan_word : List ℕ
plan_word = 0x70 ∷ 0x6C ∷ 0x61 ∷ 0x6E ∷ []

abbrev pub block_word : List ℕ
block_word = 0x62 ∷ 0x6C ∷ 0x6F ∷ 0x63 ∷ 0x6B ∷ []

abbrev pub rest_word : List ℕ
rest_word = 0x72 ∷ 0x65 ∷ 0x73 ∷ 0x74 ∷ []

abbrev pub spent_word : List ℕ
spent_word = 0x73 ∷ 0x70 ∷ 0x65 ∷ 0x6E ∷ 0x74 ∷ []

abbrev pub refused_word : List ℕ
refused_word = 0x72 ∷ 0x65 ∷ 0x66 ∷ 0x75 ∷ 0x73 ∷ 0x65 ∷ 0x64 ∷ []

-- First line: R, S, B.
unfoldable pub plan_line : Plan → List ℕ
plan_line p = line plan_word (p.racks ∷ p.rack_size ∷ block_count p ∷ [])

-- The machines below n that hold a copy, rising.
unfoldable pub holders : ℕ → ℕ → List ℕ
holders word zero = []
holders word (suc n) = holders word n ++ cond (eqb (bit word n) 1) (n ∷ []) []

-- A block line: number, count, share, machines rising.
unfoldable pub block_line : Plan → List ℕ → ℕ → List ℕ
block_line p words i =
    line block_word (i ∷ count_of p words i ∷ share_of p words i ∷ holders (word_of words i) (machines p))

-- Last line: `rest` or `spent`, steps, hottest load, coolest load, sum of loads, largest share.
abbrev pub end_word : Bool → List ℕ
end_word true = rest_word
end_word false = spent_word

unfoldable pub last_line : Plan → Run → List ℕ
last_line p r =
    let report = report_of p r.words in
    line (end_word r.rested)
    (r.steps ∷ report.maximum ∷ report.minimum ∷ report.total ∷ report.top ∷ [])

-- The listing of a plan: a run from the first placement with a step limit; block lines of the placement after the run.
unfoldable pub listing_of : Plan → ℕ → List ℕ
listing_of p limit =
    let r = run p limit (first_placement p) in
    plan_line p ++ joined (block_count p) (block_line p r.words) ++ last_line p r

-- A plan refused at any check prints `refused` and its number and nothing more.
unfoldable pub refused_line : ℕ → List ℕ
refused_line code = line refused_word (code ∷ [])

unfoldable pub printed_of : Verdict → ℕ → List ℕ
printed_of (refused code) limit = refused_line code
printed_of (accepted p) limit = listing_of p limit

-- What is printed for any bytes.
unfoldable pub printed : List ℕ → ℕ → List ℕ
printed bytes limit = printed_of (judge bytes) limit

-- The program runs "with step budget 100,000".
abbrev pub step_limit : ℕ
step_limit = 100_000

-- The bytes that it reads at most: one more than the largest plan has, which is of the latest version.
unfoldable pub input_room : ℕ
input_room = record_at (format_of latest_version) max_blocks + 1

-- Bytes that every listing fits in, and the code for a shorter text, above all refusal numbers.
abbrev pub listing_room : ℕ
listing_room = 65536

abbrev pub short_room : ℕ
short_room = 255

unfoldable pub room_refusal : ℕ → ℕ
room_refusal lent = refuse_if (ltb lent listing_room) short_room 0

-- The lent text that begins with these bytes, and their number; what it held behind them stays.
unfoldable pub wrote : List ℕ → List ℕ → Outcome ℕ
wrote bytes text = record { answer = answered (length bytes); items = bytes ++ drop (length bytes) text }

-- Listing a plan in a lent text: too short a text is refused first, and a refusal writes nothing.
unfoldable pub listing_call : List ℕ → ℕ → List ℕ → Outcome ℕ
listing_call bytes limit text =
    unless (room_refusal (length text)) text (on_plan (judge bytes) text (λ p. 0) (λ p. wrote (listing_of p limit) text))

-- Printing in a lent text: a refused plan's line is written too.
unfoldable pub print_call : List ℕ → ℕ → List ℕ → Outcome ℕ
print_call bytes limit text = unless (room_refusal (length text)) text (wrote (printed bytes limit) text)
