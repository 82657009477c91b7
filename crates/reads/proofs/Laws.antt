-- What the parts of the two calls come to, taken together: the model's calls.
-- Assumes nothing.
use mathlib.Core.Path.{◌≡◌, refl, sym, ap, ap₂, ◌∙◌}
use mathlib.Core.Bool.{Bool, true, false, cond, not}
use mathlib.Core.List.{List, [], ◌∷◌, ◌++◌, append-nil}
use Prim.Native.Nat.{ℕ, zero, suc, ◌+◌, ◌-◌, ◌<◌, ◌≤◌, max}
use native.Mathlib.Decide.{dec_lt}
use native.Mathlib.Omega.{arith}
use borrow.Author.Tests.{lt-ltb, le-ltb, eqb-true}
use lib.Dec.{ltb, eqb}
use lib.ListN.{length, get_or, set, take, drop, length-append, take-append-drop}
use lib.Seq.{length-take-le}
use Rattle.std.specs.Prelude.{Err, Some, option_map, slice_get}
use Rattle.order.specs.Select.{select}
use Rattle.order.proofs.Selects.{select-all}
use Rattle.model.specs.declared.Entry.{Entry}
use Rattle.model.specs.Plan.{Plan, block_count, is_paired, partner}
use Rattle.model.specs.Refusal.{refuse_if, or_else, Verdict, refused, accepted, judge}
use Rattle.model.specs.Calls.{Answer, turned_back, answered, OutcomeOver, refuse, unless, on_plan}
use Rattle.model.specs.ReadLog.{entry, no_entry, in_window, age, usable, standing, entries_in, current, last_tick, gap_bound, check19, check20, check21, read_refusal, noted, relisted, read_call, reads_of, popularity_of, popularity_call}
use Rattle.theory.proofs.Refusal.{judge-some}
use Rattle.refusal.specs.declared.Refusal.{Refusal}
use Rattle.refusal.specs.Rows.{number_of}
use Rattle.refusal.proofs.Laws.{number_of-pos}
use Rattle.cluster.specs.Blocks.{mate}
use Rattle.readlookup.specs.declared.Searched.{Searched}
use Rattle.readwindow.specs.Window.{gap_code, read_number}
use Rattle.readlookup.specs.Lookup.{sought_in, sought, searched_with, searched, read_code}
use Rattle.readlog.specs.Records.{last_in, compacted, CompactedAs, appended}
use Rattle.readlog.proofs.CompactLaws.{shape, shape-keep}
use Rattle.reads.specs.Answers.{reads_outcome}

-- ── Check 20 ───────────────────────────────────────────────────────────────────────────────────────────────────────────

get_at : (list : List Entry) (i : ℕ) → i < length list → slice_get list i ≡ Some (get_or list i no_entry)
get_at [] i l = absurd (omega arith)
get_at (e ∷ list) zero l = refl
get_at (e ∷ list) (suc i) l = get_at list i (omega arith)

last_is : (e : Entry) (entries : List Entry) → last_in (e ∷ entries) ≡ Some (get_or (e ∷ entries) (length entries) no_entry).tick
last_is e entries =
    let less : length (e ∷ entries) - 1 ≡ length entries = omega arith in
    ap (λ (n : ℕ). option_map (λ (x : Entry). x.tick) (slice_get (e ∷ entries) n)) less
    ∙ ap (option_map (λ (x : Entry). x.tick)) (get_at (e ∷ entries) (length entries) (omega arith))

-- the last tick, or none, is judged as the model says
last-judged : (tick : ℕ) (entries : List Entry) (later : ℕ)
    → check20 tick (last_tick entries) later ≡ or_else (gap_code tick (last_in entries)) later
unfolding last_tick check20
last-judged tick [] later = refl
last-judged tick (e ∷ entries) later =
    rw (last_is e entries)
    (by-test (ltb (age tick (get_or (e ∷ entries) (length entries) no_entry).tick) gap_bound))
  where
    by-test : (b : Bool) → refuse_if (not b) 20 later ≡ or_else (refuse_if (not b) 20 0) later
    by-test true = refl
    by-test false = refl

-- ── Refusals in turn ───────────────────────────────────────────────────────────────────────────────────────────────────

module _ (list : List Entry) (out : OutcomeOver Entry ℕ) where
  unless-some : (code : ℕ) → 1 ≤ code → unless code list out ≡ refuse code list
  unfolding unless
  unless-some zero l = absurd (omega (arith, l))
  unless-some (suc code) l = refl

  unless-none : unless 0 list out ≡ out
  unfolding unless
  unless-none = refl

  unless-either : (code later : ℕ) → unless (or_else code later) list out ≡ unless code list (unless later list out)
  unfolding unless
  unless-either zero later = refl
  unless-either (suc code) later = refl

-- ── A read ─────────────────────────────────────────────────────────────────────────────────────────────────────────────

module _ (block tick count : ℕ) (list : List Entry) where
  abbrev entries : List Entry
  entries = entries_in list count

  -- What the model says of a read that passes checks 19 and 20.
  abbrev passed : OutcomeOver Entry ℕ
  passed =
      unless (check21 (usable (length list)) (length (current tick entries)) 0) list
      (record { answer = answered (length (noted block tick entries)); items = relisted (noted block tick entries) list })

  -- there is room: the entry stands behind those kept
  longer : length (noted block tick entries) ≡ length (current tick entries) + 1
  unfolding noted
  longer = length-append (current tick entries) (entry block tick ∷ [])

  stored : length (current tick entries) < usable (length list)
      → set (compacted tick (usable (length list)) (standing (length list) count) list) (length (current tick entries)) (entry block tick)
      ≡ relisted (noted block tick entries) list
  unfolding compacted relisted noted
  stored room =
      let rest = drop (usable (length list)) list in
      let left : usable (length list) - length (current tick entries) ≡ suc (usable (length list) - length (noted block tick entries))
      = omega (arith, longer) in
      ap (λ (n : ℕ). set (shape (current tick entries) n rest) (length (current tick entries)) (entry block tick)) left
      ∙ shape-keep (current tick entries) (usable (length list) - length (noted block tick entries)) (length (current tick entries)) (entry block tick) rest refl

  -- the list is full, so that nothing was dropped
  whole : usable (length list) ≤ length (current tick entries)
      → compacted tick (usable (length list)) (standing (length list) count) list ≡ list
  unfolding compacted
  whole most =
      let used : length entries ≡ standing (length list) count = length-take-le (standing (length list) count) list (omega arith) in
      let all : current tick entries ≡ entries = select-all (in_window tick) entries (omega (arith, used)) in
      let same : length (current tick entries) ≡ length entries = ap length all in
      let full : standing (length list) count ≡ usable (length list) = omega (arith, used, same) in
      let none : usable (length list) - length (current tick entries) ≡ 0 = omega arith in
      ap₂ (λ (l : List Entry) (n : ℕ). shape l n (drop (usable (length list)) list)) (all ∙ ap (λ (n : ℕ). take n list) full) none
      ∙ ap (λ (l : List Entry). l ++ drop (usable (length list)) list) (append-nil (take (usable (length list)) list))
      ∙ take-append-drop (usable (length list)) list

  outcome-passed : (list' : List Entry) (kept : ℕ) → CompactedAs tick (usable (length list)) (standing (length list) count) list list' kept
      → reads_outcome (read_number kept (usable (length list))) (appended (entry block tick) kept (usable (length list)) list') ≡ passed
  unfolding reads_outcome appended check21 unless
  outcome-passed list' kept done = elim (dec_lt kept (usable (length list))) [
    | yes room ↦
        let fewer : length (current tick entries) < usable (length list) = rw done.kept-is at room in
        rw (done.kept-is, lt-ltb _ _ fewer)
        (ap₂ (λ (n : ℕ) (l : List Entry). record { answer = answered n; items = l }) (sym longer)
        (ap (λ (l : List Entry). set l (length (current tick entries)) (entry block tick)) done.list-is ∙ stored fewer))
    | no full ↦
        let reached : usable (length list) ≤ kept = omega arith in
        let most : usable (length list) ≤ length (current tick entries) = rw done.kept-is at reached in
        rw (done.kept-is, le-ltb _ _ most) (ap (λ (l : List Entry). refuse 21 l) (done.list-is ∙ whole most))
  ]

  -- by the verdict, and then by check 19
  read-over : (v : Verdict) → ((code : ℕ) → v ≡ refused code → 1 ≤ code)
      → on_plan v list (read_refusal block tick list count)
      (λ p. record { answer = answered (length (noted block tick entries)); items = relisted (noted block tick entries) list })
      ≡ unless (read_code v block tick (last_in entries)) list passed
  unfolding on_plan read_code sought sought_in read_refusal check19 unless
  read-over (refused zero) numbered = absurd (let l = numbered 0 refl in omega (arith, l))
  read-over (refused (suc code)) numbered = refl
  read-over (accepted p) numbered = elim (dec_lt block (block_count p)) [
    | no out ↦ rw (le-ltb block (block_count p) (omega arith)) refl
    | yes in-plan ↦
        rw (lt-ltb block (block_count p) in-plan, last-judged tick entries (check21 (usable (length list)) (length (current tick entries)) 0))
        (unless-either list _ (gap_code tick (last_in entries)) (check21 (usable (length list)) (length (current tick entries)) 0))
  ]

-- what a read's code says of the whole call
module _ (bytes : List ℕ) (block tick count : ℕ) (list : List Entry) where
  read-is : read_call bytes block tick list count
      ≡ unless (read_code (judge bytes) block tick (last_in (entries_in list count))) list (passed block tick count list)
  unfolding read_call
  read-is = read-over block tick count list (judge bytes) (judge-some bytes)

  pub read-refused : (refusal : Refusal) → number_of refusal ≡ read_code (judge bytes) block tick (last_in (entries_in list count))
      → reads_outcome (Err refusal) list ≡ read_call bytes block tick list count
  unfolding reads_outcome
  read-refused refusal code =
      sym (unless-some list (passed block tick count list) (number_of refusal) (number_of-pos refusal))
      ∙ ap (λ (n : ℕ). unless n list (passed block tick count list)) code ∙ sym read-is

  pub read-passed : (kept : ℕ) (list' : List Entry) → 0 ≡ read_code (judge bytes) block tick (last_in (entries_in list count))
      → CompactedAs tick (usable (length list)) (standing (length list) count) list list' kept
      → reads_outcome (read_number kept (usable (length list))) (appended (entry block tick) kept (usable (length list)) list')
      ≡ read_call bytes block tick list count
  read-passed kept list' code done =
      outcome-passed block tick count list list' kept done
      ∙ sym (unless-none list (passed block tick count list))
      ∙ ap (λ (n : ℕ). unless n list (passed block tick count list)) code ∙ sym read-is

-- ── A popularity ───────────────────────────────────────────────────────────────────────────────────────────────────────

reads_of-none : (block : ℕ) → reads_of block [] ≡ 0
unfolding reads_of select
reads_of-none block = refl

-- the larger of a block's reads and its partner's, or its own reads twice
popularity_of-mate : (p : Plan) (block : ℕ) (entries : List Entry)
    → popularity_of p block entries ≡ max (reads_of block entries) (reads_of (mate p block) entries)
unfolding popularity_of mate
popularity_of-mate p block entries = go (is_paired p block)
  where
    go : (b : Bool) → cond b (max (reads_of block entries) (reads_of (partner p block) entries)) (reads_of block entries)
        ≡ max (reads_of block entries) (reads_of (cond b (partner p block) block) entries)
    go true = refl
    go false = omega arith

module _ (block count : ℕ) (list : List Entry) where
  -- What the two searches come to.
  abbrev pub counted : Answer Searched → OutcomeOver Entry ℕ
  counted (turned_back code) = refuse code list
  counted (answered s) =
      record { answer = answered (max (reads_of block (take s.own list)) (reads_of s.mate (take s.other list))); items = list }

  abbrev number : ℕ → OutcomeOver Entry ℕ
  number n = record { answer = answered n; items = list }

  abbrev held : List Entry
  held = entries_in list count

  -- a second search finds what the first one did, or the partner's
  larger : (p : Plan) (b : Bool) → (b ≡ true → mate p block ≡ block)
      → max (reads_of block held) (reads_of (mate p block) (take (cond b 0 (standing (length list) count)) list)) ≡ popularity_of p block held
  larger p true e =
      let none : reads_of (mate p block) (take 0 list) ≡ 0 = reads_of-none (mate p block) in
      let same : reads_of (mate p block) held ≡ reads_of block held = ap (λ (b : ℕ). reads_of b held) (e refl) in
      rw (popularity_of-mate p block held, same, none) (omega arith)
  larger p false e = sym (popularity_of-mate p block held)

  popularity-over : (v : Verdict) → ((code : ℕ) → v ≡ refused code → 1 ≤ code)
      → counted (searched v block (length list) count)
      ≡ on_plan v list (λ p. check19 block (block_count p) 0)
      (λ p. record { answer = answered (popularity_of p block (entries_in list count)); items = list })
  unfolding on_plan searched sought sought_in check19 unless
  popularity-over (refused zero) numbered = absurd (let l = numbered 0 refl in omega (arith, l))
  popularity-over (refused (suc code)) numbered = refl
  popularity-over (accepted p) numbered = elim (dec_lt block (block_count p)) [
    | no out ↦ rw (le-ltb block (block_count p) (omega arith)) refl
    | yes in-plan ↦ rw (lt-ltb block (block_count p) in-plan) (ap number (larger p (eqb (mate p block) block) (eqb-true (mate p block) block)))
  ]

  pub popularity-is : (bytes : List ℕ) → counted (searched (judge bytes) block (length list) count) ≡ popularity_call bytes block list count
  unfolding popularity_call
  popularity-is bytes = popularity-over (judge bytes) (judge-some bytes)

-- What is searched is within the list.
pub searched-room : (verdict : Verdict) (block lent count : ℕ) (s : Searched) → answered s ≡ searched verdict block lent count
    → (s.own ≤ lent) × (s.other ≤ lent)
unfolding searched
searched-room verdict block lent count s is = by-answer (sought verdict block) is
  where
    by-test : (b : Bool) (own other : ℕ) → own ≡ standing lent count → other ≡ cond b 0 (standing lent count) → (own ≤ lent) × (other ≤ lent)
    by-test true own other first second = (omega (arith, first), omega (arith, second))
    by-test false own other first second = (omega (arith, first), omega (arith, second))

    by-answer : (a : Answer ℕ) → answered s ≡ searched_with block (standing lent count) a → (s.own ≤ lent) × (s.other ≤ lent)
    by-answer (turned_back code) is = absurd (cc)
    by-answer (answered mate) is =
        let same : s ≡ record { own = standing lent count; mate = mate; other = cond (eqb mate block) 0 (standing lent count) } = cc in
        by-test (eqb mate block) s.own s.other (ap (λ (s : Searched). s.own) same) (ap (λ (s : Searched). s.other) same)
