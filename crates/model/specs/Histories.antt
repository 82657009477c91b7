-- Document 02, U2: sequences of calls on reads, the reads that they accept, and which of these are of the last two hours.
use Rattle.std.specs.Prelude.{Bool, true, cond, ◌&&◌, List, [], ◌∷◌, ◌++◌, ℕ, ◌+◌, ◌<◌, ltb}
use Rattle.model.specs.declared.Entry.{Entry}
use Rattle.model.specs.Calls.{Answer, turned_back, answered}
use Rattle.model.specs.ReadLog.{entry, tick_bound, age, window, in_window, gap_bound, read_call, popularity_call}

-- A call on reads: the bytes that it gets for the plan, and a read of a block at a tick, or a block's popularity.
pub data ReadRequest : Type 0 where
  note_read : ℕ → ℕ → ReadRequest
  ask_popularity : ℕ → ReadRequest

pub record ReadsCall : Type 0 where
  pub bytes : List ℕ
  pub request : ReadRequest

-- What is handed from call to call: the list, and the count of entries.
pub record Log : Type 0 where
  pub list : List Entry
  pub count : ℕ

-- The count is answered anew for an accepted read.
abbrev pub count_after : Answer ℕ → ℕ → ℕ
count_after (turned_back code) count = count
count_after (answered n) count = n

unfoldable pub logged : ReadRequest → List ℕ → Log → Log
logged (note_read block tick) bytes log =
    let out = read_call bytes block tick log.list log.count in
    record { list = out.items; count = count_after out.answer log.count }
logged (ask_popularity block) bytes log =
    record { list = (popularity_call bytes block log.list log.count).items; count = log.count }

-- Each call is given the list and count that the last one left.
unfoldable pub play_reads : List ReadsCall → Log → Log
play_reads [] log = log
play_reads (call ∷ calls) log = play_reads calls (logged call.request call.bytes log)

-- The accepted reads, in order.
abbrev pub if_answered : Answer ℕ → List Entry → List Entry
if_answered (turned_back code) reads = []
if_answered (answered n) reads = reads

unfoldable pub accepts : ReadRequest → List ℕ → Log → List Entry
accepts (note_read block tick) bytes log =
    if_answered (read_call bytes block tick log.list log.count).answer (entry block tick ∷ [])
accepts (ask_popularity block) bytes log = []

unfoldable pub accepted_reads : List ReadsCall → Log → List Entry
accepted_reads [] log = []
accepted_reads (call ∷ calls) log =
    accepts call.request call.bytes log ++ accepted_reads calls (logged call.request call.bytes log)

-- A read is in the window at every accepted tick since.
unfoldable pub in_window_since : Entry → List Entry → Bool
in_window_since e [] = true
in_window_since e (next ∷ later) = let after = in_window_since e later in in_window next.tick e && after

unfoldable pub still_counted : List Entry → List Entry
still_counted [] = []
still_counted (e ∷ later) = let rest = still_counted later in cond (in_window_since e later) (e ∷ rest) rest

-- True time: the sum of the accepted reads' tick differences, here from a read on to the last one.
unfoldable pub elapsed : Entry → List Entry → ℕ
elapsed e [] = 0
elapsed e (next ∷ later) = age next.tick e.tick + elapsed next later

-- The reads of the last two hours of it.
unfoldable pub recent : List Entry → List Entry
recent [] = []
recent (e ∷ later) = let rest = recent later in cond (ltb (elapsed e later) window) (e ∷ rest) rest

-- Successive accepted reads are less than 2 to the power 31 apart.
unfoldable pub CloseTo : Entry → List Entry → Type 0
CloseTo e [] = Unit {0}
CloseTo e (next ∷ later) = (age next.tick e.tick < gap_bound) × CloseTo next later

unfoldable pub Successive : List Entry → Type 0
Successive [] = Unit {0}
Successive (e ∷ later) = CloseTo e later

-- A tick has 32 bits.
abbrev pub Ticks : ReadRequest → Type 0
Ticks (note_read block tick) = tick < tick_bound
Ticks (ask_popularity block) = Unit {0}

unfoldable pub AllTicks : List ReadsCall → Type 0
AllTicks [] = Unit {0}
AllTicks (call ∷ calls) = Ticks call.request × AllTicks calls

-- An empty list has no entries, whatever its records hold.
abbrev pub empty_log : List Entry → Log
empty_log list = record { list = list; count = 0 }
