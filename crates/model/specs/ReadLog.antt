-- Document 02, U2: popularity counted over two hours. Reads are noted in a lent list, and a block's popularity is counted there.
use Rattle.std.specs.Prelude.{Bool, cond, not, List, [], ◌∷◌, ◌++◌, ℕ, ◌+◌, ◌-◌, ◌%◌, min, max, ltb, eqb, length, get_or, take, drop, replicate}
use Rattle.std.proofs.Math.Option.{Option, none, some}
use Rattle.order.specs.Select.{select}
use Rattle.model.specs.declared.Entry.{Entry}
use Rattle.model.specs.Plan.{Plan, block_count, is_paired, partner}
use Rattle.model.specs.Refusal.{refuse_if, judge}
use Rattle.model.specs.Calls.{OutcomeOver, answered, on_plan}

-- A read: a block number and a millisecond tick of 32 bits, which starts over. A record that holds none is 0.
abbrev pub entry : ℕ → ℕ → Entry
entry block tick = record { block = block; tick = tick }

abbrev pub no_entry : Entry
no_entry = entry 0 0

abbrev pub tick_bound : ℕ
tick_bound = 4294967296

-- Ages are taken modulo 2 to the power 32.
unfoldable pub age : ℕ → ℕ → ℕ
age now tick = (now + (tick_bound - tick)) % tick_bound

-- A read counts while its age is below 7,200,000.
abbrev pub window : ℕ
window = 7200000

unfoldable pub in_window : ℕ → Entry → Bool
in_window now e = ltb (age now e.tick) window

-- The entries stand in a lent list of at most 4,096 records: records past 4,096 are not used.
abbrev pub max_entries : ℕ
max_entries = 4096

abbrev pub usable : ℕ → ℕ
usable lent = min lent max_entries

-- The count of entries is handed in, and taken as the usable length if above it.
abbrev pub standing : ℕ → ℕ → ℕ
standing lent count = min count (usable lent)

abbrev pub entries_in : List Entry → ℕ → List Entry
entries_in list count = take (standing (length list) count) list

-- Entries too old are dropped.
abbrev pub current : ℕ → List Entry → List Entry
current now entries = select (in_window now) entries

-- The last tick is that of the last entry; an empty list has none.
unfoldable pub last_tick : List Entry → Option ℕ
last_tick [] = none
last_tick (e ∷ entries) = some (get_or (e ∷ entries) (length entries) no_entry).tick

-- 19: the block is not in the plan.
unfoldable pub check19 : ℕ → ℕ → ℕ → ℕ
check19 block blocks = refuse_if (not (ltb block blocks)) 19

-- 20: the last tick's age is 2 to the power 31 or more.
abbrev pub gap_bound : ℕ
gap_bound = 2147483648

unfoldable pub check20 : ℕ → Option ℕ → ℕ → ℕ
check20 now none later = later
check20 now (some last) later = refuse_if (not (ltb (age now last) gap_bound)) 20 later

-- 21: the list is full after the dropping.
unfoldable pub check21 : ℕ → ℕ → ℕ → ℕ
check21 room kept = refuse_if (not (ltb kept room)) 21

-- Of a read, tested in that order; 12 is not tested.
unfoldable pub read_refusal : ℕ → ℕ → List Entry → ℕ → Plan → ℕ
read_refusal block tick list count p =
    let entries = entries_in list count in
    check19 block (block_count p)
    (check20 tick (last_tick entries)
    (check21 (usable (length list)) (length (current tick entries))
    0))

-- Kept entries move to the front in order, the new one follows.
unfoldable pub noted : ℕ → ℕ → List Entry → List Entry
noted block tick entries = current tick entries ++ (entry block tick ∷ [])

-- Later usable records become 0; those past the usable length stay.
unfoldable pub relisted : List Entry → List Entry → List Entry
relisted entries list =
    entries ++ replicate (usable (length list) - length entries) no_entry ++ drop (usable (length list)) list

-- A read answers the new count.
unfoldable pub read_call : List ℕ → ℕ → ℕ → List Entry → ℕ → OutcomeOver Entry ℕ
read_call bytes block tick list count =
    on_plan (judge bytes) list (read_refusal block tick list count)
    (λ p.
    let entries = noted block tick (entries_in list count) in
    record { answer = answered (length entries); items = relisted entries list })

-- A block's popularity: the number of its entries, for both of a pair the larger.
unfoldable pub reads_of : ℕ → List Entry → ℕ
reads_of block entries = length (select (λ e. eqb e.block block) entries)

unfoldable pub popularity_of : Plan → ℕ → List Entry → ℕ
popularity_of p block entries =
    cond (is_paired p block) (max (reads_of block entries) (reads_of (partner p block) entries)) (reads_of block entries)

unfoldable pub popularity_call : List ℕ → ℕ → List Entry → ℕ → OutcomeOver Entry ℕ
popularity_call bytes block list count =
    on_plan (judge bytes) list (λ p. check19 block (block_count p) 0)
    (λ p. record { answer = answered (popularity_of p block (entries_in list count)); items = list })
