-- Document 02, U2: each block's entries are exactly its accepted reads in the window at every accepted tick since, over any sequence of calls
-- from an empty list; and in true time, those of the last two hours.
use Rattle.std.specs.Prelude.{◌≡◌, List, ℕ, ◌<◌, ◌≤◌, length, drop}
use Rattle.model.specs.declared.Entry.{Entry}
use Rattle.model.specs.Plan.{Plan, block_count}
use Rattle.model.specs.Refusal.{judge, accepted}
use Rattle.model.specs.Calls.{answered}
use Rattle.model.specs.ReadLog.{usable, entries_in, popularity_of, popularity_call}
use Rattle.model.specs.Histories.{ReadsCall, Log, play_reads, accepted_reads, still_counted, recent, Successive, AllTicks, empty_log}

-- What holds after the calls, of the list lent before them and the reads accepted.
pub record Counted (list : List Entry) (reads : List Entry) (log : Log) : Type 0 where
  pub length-same : length log.list ≡ length list
  pub count-max : log.count ≤ usable (length list)
  pub beyond : drop (usable (length list)) log.list ≡ drop (usable (length list)) list
  pub entries-are : entries_in log.list log.count ≡ still_counted reads
  pub close : Successive reads
  pub in-time : entries_in log.list log.count ≡ recent reads
  pub popularity-is : (bytes : List ℕ) (p : Plan) (block : ℕ) → judge bytes ≡ accepted p → block < block_count p
      → (popularity_call bytes block log.list log.count).answer ≡ answered (popularity_of p block (recent reads))

-- The claim: from an empty list, after every sequence of calls.
abbrev pub ReadsClaim : Type 0
ReadsClaim =
    (list : List Entry) (calls : List ReadsCall) → AllTicks calls
    → Counted list (accepted_reads calls (empty_log list)) (play_reads calls (empty_log list))
