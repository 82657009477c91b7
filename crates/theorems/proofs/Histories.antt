-- The claim about every sequence of calls on reads (`ReadsClaim` in specs/Histories.antt).
-- Each accepted read drops what is out of the window at its tick, so what is left was in the window at every accepted tick since. The last
-- entry is always the last accepted read, so check 20 keeps successive accepted reads less than 2^31 apart. As long as an entry stands,
-- less than the window has passed, and the next tick comes less than 2^31 later: together less than 2^32, so that its age is the true time.
-- Assumes nothing.
use mathlib.Core.Path.{◌≡◌, refl, sym, ap, ◌∙◌, subst}
use mathlib.Core.Bool.{Bool, true, false, cond, ◌&&◌}
use mathlib.Core.Logic.{◌⊎◌, ⊎_elim}
use mathlib.Core.Option.{some, none-ne-some}
use mathlib.Core.List.{List, [], ◌∷◌, ◌++◌, append_assoc, append-nil}
use Prim.Native.Nat.{ℕ, ◌+◌, ◌<◌, ◌≤◌, min}
use native.Mathlib.Decide.{dec_lt}
use native.Mathlib.Omega.{arith}
use borrow.Author.Tests.{lt-ltb, le-ltb}
use lib.Dec.{ltb}
use lib.ListN.{length, take, drop, length-append}
use Rattle.order.specs.Select.{select}
use Rattle.model.specs.declared.Entry.{Entry}
use Rattle.model.specs.Plan.{Plan, block_count}
use Rattle.model.specs.Refusal.{judge, accepted}
use Rattle.model.specs.Calls.{OutcomeOver, answered}
use Rattle.model.specs.ReadLog.{entry, tick_bound, age, window, in_window, usable, entries_in, current, last_tick, gap_bound, check19, read_refusal, noted, relisted, read_call, popularity_of, popularity_call}
use Rattle.model.specs.Histories.{ReadRequest, note_read, ask_popularity, ReadsCall, Log, count_after, logged, play_reads, if_answered, accepts, accepted_reads, in_window_since, still_counted, elapsed, recent, CloseTo, Successive, Ticks, AllTicks, empty_log}
use Rattle.theorems.specs.Histories.{ReadsClaim}
use Rattle.theory.proofs.Calls.{on_plan-made, on_plan-cases}
use Rattle.theory.proofs.ReadLog.{age-self, age-adds, read_refusal-zero, ReadPassed, relisted-length, relisted-beyond, relisted-entries}

-- ── The reads still counted ────────────────────────────────────────────────────────────────────────────────────────────

since-more : (e : Entry) (later : List Entry) (next : Entry)
    → in_window_since e (later ++ (next ∷ [])) ≡ (in_window_since e later && in_window next.tick e)
unfolding in_window_since
since-more e [] next = go (in_window next.tick e)
  where
    go : (b : Bool) → (b && true) ≡ b
    go true = refl
    go false = refl
since-more e (r ∷ later) next = go (in_window r.tick e) (since-more e later next)
  where
    go : (b : Bool) → in_window_since e (later ++ (next ∷ [])) ≡ (in_window_since e later && in_window next.tick e)
        → (b && in_window_since e (later ++ (next ∷ []))) ≡ ((b && in_window_since e later) && in_window next.tick e)
    go true more = more
    go false more = refl

-- one accepted read more: those out of the window at its tick go, and it follows
counted-more : (reads : List Entry) (next : Entry)
    → still_counted (reads ++ (next ∷ [])) ≡ current next.tick (still_counted reads) ++ (next ∷ [])
unfolding still_counted select in_window_since
counted-more [] next = refl
counted-more (e ∷ later) next =
    rw (since-more e later next) (go (in_window_since e later) (in_window next.tick e) refl (counted-more later next))
  where
    go : (b t : Bool) → in_window next.tick e ≡ t
        → still_counted (later ++ (next ∷ [])) ≡ current next.tick (still_counted later) ++ (next ∷ [])
        → cond (b && t) (e ∷ still_counted (later ++ (next ∷ []))) (still_counted (later ++ (next ∷ [])))
        ≡ select (in_window next.tick) (cond b (e ∷ still_counted later) (still_counted later)) ++ (next ∷ [])
    go true true is more = rw is (ap (λ (l : List Entry). e ∷ l) more)
    go true false is more = rw is more
    go false t is more = more

-- the last of them is the last accepted read
counted-last : (reads : List Entry) → last_tick (still_counted reads) ≡ last_tick reads
unfolding last_tick still_counted in_window_since
counted-last [] = refl
counted-last (e ∷ []) = refl
counted-last (e ∷ r ∷ later) = go (in_window_since e (r ∷ later)) (still_counted (r ∷ later)) refl (counted-last (r ∷ later))
  where
    go : (b : Bool) (rest : List Entry) → still_counted (r ∷ later) ≡ rest → last_tick rest ≡ last_tick (r ∷ later)
        → last_tick (cond b (e ∷ rest) rest) ≡ last_tick (e ∷ r ∷ later)
    go true [] is last = absurd (none-ne-some _ last)
    go true (a ∷ rest) is last = last
    go false rest is last = last

-- ── Successive reads ───────────────────────────────────────────────────────────────────────────────────────────────────

close_more : (e : Entry) (later : List Entry) (next : Entry) → CloseTo e later
    → ((last : ℕ) → last_tick (e ∷ later) ≡ some last → age next.tick last < gap_bound)
    → CloseTo e (later ++ (next ∷ []))
unfolding CloseTo last_tick
close_more e [] next close gap = (gap e.tick refl, tt)
close_more e (r ∷ later) next close gap = (close.0, close_more r later next close.1 gap)

successive-more : (reads : List Entry) (next : Entry) → Successive reads
    → ((last : ℕ) → last_tick reads ≡ some last → age next.tick last < gap_bound)
    → Successive (reads ++ (next ∷ []))
unfolding Successive CloseTo
successive-more [] next close gap = tt
successive-more (e ∷ later) next close gap = close_more e later next close gap

-- ── True time ──────────────────────────────────────────────────────────────────────────────────────────────────────────

-- Ticks of 32 bits.
unfoldable Ticked : List Entry → Type 0
Ticked [] = Unit {0}
Ticked (e ∷ later) = (e.tick < tick_bound) × Ticked later

ticked-more : (reads : List Entry) (next : Entry) → Ticked reads → next.tick < tick_bound → Ticked (reads ++ (next ∷ []))
unfolding Ticked
ticked-more [] next all fits = (fits, tt)
ticked-more (e ∷ later) next all fits = (all.0, ticked-more later next all.1 fits)

-- an entry that stands at the read r, some time after its own tick
since-time : (e r : Entry) (later : List Entry) → e.tick < tick_bound → r.tick < tick_bound → Ticked later
    → age r.tick e.tick < window → CloseTo r later
    → in_window_since e later ≡ ltb (age r.tick e.tick + elapsed r later) window
unfolding in_window_since elapsed Ticked CloseTo in_window
since-time e r [] fits-e fits-r all stands close = sym (lt-ltb (age r.tick e.tick + 0) window (omega arith))
since-time e r (next ∷ later) fits-e fits-r all stands close =
    let gap : age next.tick r.tick < gap_bound = close.0 in
    let adds : age next.tick e.tick ≡ age r.tick e.tick + age next.tick r.tick
    = age-adds e.tick r.tick next.tick fits-e fits-r all.0 (omega arith) in
    elim (dec_lt (age next.tick e.tick) window) [
      | yes l ↦
          let passed : age next.tick e.tick + elapsed next later ≡ age r.tick e.tick + (age next.tick r.tick + elapsed next later)
          = omega (arith, adds) in
          rw (lt-ltb (age next.tick e.tick) window l)
          (since-time e next later fits-e all.0 all.1 l close.1 ∙ ap (λ (n : ℕ). ltb n window) passed)
      | no l ↦
          rw (le-ltb (age next.tick e.tick) window (omega arith))
          (sym (le-ltb (age r.tick e.tick + (age next.tick r.tick + elapsed next later)) window (omega (arith, adds))))
    ]

close-later : (e : Entry) (later : List Entry) → CloseTo e later → Successive later
unfolding Successive CloseTo
close-later e [] close = tt
close-later e (r ∷ later) close = close.1

counted-time : (reads : List Entry) → Ticked reads → Successive reads → still_counted reads ≡ recent reads
unfolding still_counted recent Ticked Successive
counted-time [] all close = refl
counted-time (e ∷ later) all close =
    let now : age e.tick e.tick ≡ 0 = age-self e.tick all.0 in
    let passed : age e.tick e.tick + elapsed e later ≡ elapsed e later = omega (arith, now) in
    let here : in_window_since e later ≡ ltb (elapsed e later) window
    = since-time e e later all.0 all.0 all.1 (omega (arith, now)) close ∙ ap (λ (n : ℕ). ltb n window) passed in
    rw (here, counted-time later all.1 (close-later e later close))

-- ── One call ───────────────────────────────────────────────────────────────────────────────────────────────────────────

-- What holds between two calls.
record Kept (list reads : List Entry) (log : Log) : Type 0 where
  length-same : length log.list ≡ length list
  count-max : log.count ≤ usable (length list)
  beyond : drop (usable (length list)) log.list ≡ drop (usable (length list)) list
  entries-are : entries_in log.list log.count ≡ still_counted reads
  close : Successive reads
  ticked : Ticked reads

-- an accepted read
kept_read : (list reads : List Entry) (log : Log) (block tick : ℕ) (p : Plan) → Kept list reads log → tick < tick_bound
    → ReadPassed block tick log.list log.count p
    → let entries = noted block tick (entries_in log.list log.count) in
    Kept list (reads ++ (entry block tick ∷ [])) (record { list = relisted entries log.list; count = length entries })
unfolding noted
kept_read list reads log block tick p kept fits passed =
    let entries = noted block tick (entries_in log.list log.count) in
    let size : length entries ≡ length (current tick (entries_in log.list log.count)) + 1 = noted-length in
    let room : length entries ≤ usable (length log.list) = omega (arith, size, passed.room) in
    record {
      length-same = relisted-length entries log.list room ∙ kept.length-same;
      count-max = subst (λ (n : ℕ). length entries ≤ usable n) kept.length-same room;
      beyond =
          subst (λ (n : ℕ). drop (usable n) (relisted entries log.list) ≡ drop (usable n) log.list) kept.length-same
          (relisted-beyond entries log.list room)
          ∙ kept.beyond;
      entries-are =
          relisted-entries entries log.list room ∙ noted-is ∙ sym (counted-more reads (entry block tick));
      close = successive-more reads (entry block tick) kept.close (λ last is. passed.close last (ap last_tick kept.entries-are ∙ counted-last reads ∙ is));
      ticked = ticked-more reads (entry block tick) kept.ticked fits;
    }
  where
    noted-length : length (noted block tick (entries_in log.list log.count)) ≡ length (current tick (entries_in log.list log.count)) + 1
    noted-length = length-append (current tick (entries_in log.list log.count)) (entry block tick ∷ [])

    noted-is : noted block tick (entries_in log.list log.count) ≡ current tick (still_counted reads) ++ (entry block tick ∷ [])
    noted-is = ap (λ (l : List Entry). current tick l ++ (entry block tick ∷ [])) kept.entries-are

-- a call that leaves the list as it was
kept-none : (list reads : List Entry) (log : Log) → Kept list reads log → Kept list (reads ++ []) log
kept-none list reads log kept = rw (append-nil reads) kept

-- any call
kept-call : (list reads : List Entry) (log : Log) (request : ReadRequest) (bytes : List ℕ) → Kept list reads log → Ticks request
    → Kept list (reads ++ accepts request bytes log) (logged request bytes log)
unfolding logged accepts read_call popularity_call
kept-call list reads log (note_read block tick) bytes kept fits =
    ⊎_elim
    (λ back. leads (sym back.1) (kept-none list reads log kept))
    (λ made. leads (sym made.is) (kept_read list reads log block tick made.plan kept fits (read_refusal-zero _ _ _ _ _ made.passes)))
    (on_plan-cases log.list (read_refusal block tick log.list log.count) noting (judge bytes))
  where
    noting : Plan → OutcomeOver Entry ℕ
    noting p =
        let entries = noted block tick (entries_in log.list log.count) in
        record { answer = answered (length entries); items = relisted entries log.list }

    leads : {o o' : OutcomeOver Entry ℕ} → o ≡ o'
        → Kept list (reads ++ if_answered o.answer (entry block tick ∷ [])) (record { list = o.items; count = count_after o.answer log.count })
        → Kept list (reads ++ if_answered o'.answer (entry block tick ∷ [])) (record { list = o'.items; count = count_after o'.answer log.count })
    leads e =
        subst
        (λ (o : OutcomeOver Entry ℕ). Kept list (reads ++ if_answered o.answer (entry block tick ∷ []))
        (record { list = o.items; count = count_after o.answer log.count }))
        e
kept-call list reads log (ask_popularity block) bytes kept fits =
    ⊎_elim
    (λ back. leads (sym back.1) (kept-none list reads log kept))
    (λ made. leads (sym made.is) (kept-none list reads log kept))
    (on_plan-cases log.list (λ p. check19 block (block_count p) 0) asking (judge bytes))
  where
    asking : Plan → OutcomeOver Entry ℕ
    asking p = record { answer = answered (popularity_of p block (entries_in log.list log.count)); items = log.list }

    leads : {o o' : OutcomeOver Entry ℕ} → o ≡ o' → Kept list (reads ++ []) (record { list = o.items; count = log.count })
        → Kept list (reads ++ []) (record { list = o'.items; count = log.count })
    leads e = subst (λ (o : OutcomeOver Entry ℕ). Kept list (reads ++ []) (record { list = o.items; count = log.count })) e

-- ── Every sequence ─────────────────────────────────────────────────────────────────────────────────────────────────────

kept-calls : (list reads : List Entry) (calls : List ReadsCall) (log : Log) → Kept list reads log → AllTicks calls
    → Kept list (reads ++ accepted_reads calls log) (play_reads calls log)
unfolding play_reads accepted_reads AllTicks
kept-calls list reads [] log kept all = kept-none list reads log kept
kept-calls list reads (call ∷ calls) log kept all =
    let first = accepts call.request call.bytes log in
    let next = logged call.request call.bytes log in
    subst (λ (r : List Entry). Kept list r (play_reads calls next)) (append_assoc reads first (accepted_reads calls next))
    (kept-calls list (reads ++ first) calls next (kept-call list reads log call.request call.bytes kept all.0) all.1)

kept-empty : (list : List Entry) → Kept list [] (empty_log list)
unfolding still_counted Successive Ticked
kept-empty list =
    record {
      length-same = refl;
      count-max = omega arith;
      beyond = refl;
      entries-are = let none : min 0 (usable (length list)) ≡ 0 = omega arith in ap (λ (n : ℕ). take n list) none;
      close = tt;
      ticked = tt;
    }

-- a popularity is counted over the entries
popularity-answers : (bytes : List ℕ) (p : Plan) (block : ℕ) (list : List Entry) (count : ℕ) → judge bytes ≡ accepted p → block < block_count p
    → (popularity_call bytes block list count).answer ≡ answered (popularity_of p block (entries_in list count))
unfolding popularity_call check19
popularity-answers bytes p block list count reads below =
    ap (λ (o : OutcomeOver Entry ℕ). o.answer)
    (on_plan-made list (λ q. check19 block (block_count q) 0)
    (λ q. record { answer = answered (popularity_of q block (entries_in list count)); items = list })
    (judge bytes) p reads (rw (lt-ltb block (block_count p) below)))

pub reads-claim : ReadsClaim
reads-claim list calls all =
    let kept = kept-calls list [] calls (empty_log list) (kept-empty list) all in
    let in-time = kept.entries-are ∙ counted-time _ kept.ticked kept.close in
    record {
      length-same = kept.length-same;
      count-max = kept.count-max;
      beyond = kept.beyond;
      entries-are = kept.entries-are;
      close = kept.close;
      in-time = in-time;
      popularity-is = λ bytes p block reads below.
          popularity-answers bytes p block _ _ reads below ∙ ap (λ (l : List Entry). answered (popularity_of p block l)) in-time;
    }
