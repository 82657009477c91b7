-- A plan answers as the plan with the same fields in another version: the two read as plans that are equal but for the version, and no
-- definition above the reading looks at it.
-- Assumes nothing.
use mathlib.Core.Path.{◌≡◌, refl, ap, ap₂, sym, subst, fun_ext, ◌∙◌}
use mathlib.Core.Bool.{Bool, true, false, not, ◌&&◌, ◌||◌}
use mathlib.Core.List.{List}
use mathlib.Core.Logic.{◌⊎◌, inl, inr, ⊎_elim}
use Prim.Native.Nat.{ℕ, zero, suc, ◌*◌, ◌/◌, ◌%◌, ◌≤◌, min}
use native.Mathlib.Omega.{arith}
use borrow.Author.Tests.{le-ltb, eq-eqb}
use lib.Dec.{leb, ltb, eqb, lit≤}
use lib.ListN.{length}
use Rattle.order.specs.Sum.{sum}
use Rattle.order.specs.Search.{allb}
use Rattle.order.proofs.Tables.{table-cong}
use Rattle.model.specs.Plan.{Plan, machines, places, block_count, max_replicas, upper, is_paired, pairs_back, pairs_next, partner, min_total, mark_in, version_in, racks_in, rack_size_in, feeds_in, capacity_in, budget_in, block_count_in, latest_version, format_of, format_in, record_at, block_in, plan_in}
use Rattle.model.specs.Refusal.{refuse_if, or_else, mark, max_machines, max_capacity, max_blocks, check1, check2, check4, check22, check5, check7, check23, block_refusal, blocks_refusal, pair_refusal, pairs_refusal, plan_refusal, refusal, Verdict, refused, accepted, verdict, judge}
use Rattle.model.specs.Replication.{copy_limit, largest_share, need, reachable, figure, chosen}
use Rattle.model.specs.Placement.{count_of, replicas, replicas_in, domains_used, used, all_within, all_spread, all_fit, kept_apart, all_apart, counts_feasible, is_feasible, position, laid_word, first_word, first_placement, share_of, load, max_load_of, min_load_of, total_load_of, max_share}
use Rattle.model.specs.Steps.{after, improves, can_move, can_swap, routes, next_move, next_swap, next_step, run}
use Rattle.model.specs.Calls.{OutcomeOver, on_plan, buffer_refusal, all_counted, placement_refusal, on_placement, report_of, counts_call, first_call, check_call, report_call, step_call, run_call}
use Rattle.model.specs.ReadLog.{check19, read_refusal, read_call, popularity_of, popularity_call}
use Rattle.model.specs.Listing.{plan_line, block_line, last_line, listing_of, printed_of, printed}
use Rattle.model.specs.Conversion.{with_version}
use Rattle.theory.specs.Refusal.{PastRow23}
use Rattle.theory.proofs.Plan.{max_replicas-least, upper-alike}
use Rattle.theory.proofs.Refusal.{check3-read, check6-long, check23-above, check23-early, check23-usable, blocks_refusal-le, pairs_refusal-cases, total_refusal, accepted-laws}
use Rattle.theorems.specs.Versions.{TurnedBack, verdict_with, SameUpper, SameRow23, Comparable, VersionsFree, Described, SameFields, SameAnswers, Versions, VersionsApart}
use Rattle.theorems.proofs.Exact.{total-cases}

-- ── Comparable ───────────────────────────────────────────────────────────────────────────────────────
pub comparable : Comparable
unfolding max_replicas
comparable =
    record {
      early = λ machines. refl;
      later = λ machines. refl;
      few = λ from to machines l. omega (arith, max_replicas-least from, max_replicas-least to);
      unjudged = λ from to room budget early late. fun_ext (λ later. check23-early to room budget later late ∙ sym (check23-early from room budget later early));
      usable = λ from to room budget l. fun_ext (λ later. check23-usable to room budget later l ∙ sym (check23-usable from room budget later l));
    }

-- ── VersionsFree ─────────────────────────────────────────────────────────────────────────────────
module _ (version : ℕ) (p : Plan) (same : SameUpper p.version version (machines p)) where
  upper-free : (i : ℕ) → upper (with_version version p) i ≡ upper p i
  upper-free = upper-alike p version same

  block_refusal-free : (i : ℕ) → block_refusal (with_version version p) i ≡ block_refusal p i
  unfolding block_refusal
  block_refusal-free i = rw (upper-free i)

  -- but for row 23
  plan_refusal-free : plan_refusal (with_version version p)
      ≡ or_else (blocks_refusal p) (or_else (pairs_refusal p) (check23 version (places p) p.budget (total_refusal p)))
  unfolding plan_refusal blocks_refusal pairs_refusal pair_refusal min_total
  plan_refusal-free = rw (fun_ext block_refusal-free)

  need-free : (f i : ℕ) → need (with_version version p) f i ≡ need p f i
  unfolding need
  need-free f i = rw (upper-free i)

  reachable-free : (f : ℕ) → reachable (with_version version p) f ≡ reachable p f
  unfolding reachable copy_limit
  reachable-free f =
      ap₂ (λ (most needs : ℕ → ℕ). allb (block_count p) (λ i. leb (needs i) (most i)) && leb (sum (block_count p) needs) (copy_limit p))
      (fun_ext upper-free)
      (fun_ext (need-free f))

  figure-free : figure (with_version version p) ≡ figure p
  unfolding figure largest_share
  figure-free = rw (fun_ext reachable-free)

  chosen-free : chosen (with_version version p) ≡ chosen p
  unfolding chosen
  chosen-free = fun_ext (λ i. ap (λ (f : ℕ). need (with_version version p) f i) figure-free ∙ need-free (figure p) i)

  first_word-free : (i : ℕ) → first_word (with_version version p) i ≡ first_word p i
  unfolding first_word laid_word position
  first_word-free i = ap (λ (count : ℕ → ℕ). laid_word p (sum i count) (count i)) chosen-free

  first-free : first_placement (with_version version p) ≡ first_placement p
  unfolding first_placement
  first-free = rw (fun_ext first_word-free)

  next-free : (words : List ℕ) → next_step (with_version version p) words ≡ next_step p words
  unfolding next_step next_move next_swap routes can_move can_swap improves is_feasible counts_feasible all_within all_spread all_fit all_apart kept_apart partner replicas replicas_in domains_used used share_of load copy_limit upper is_paired pairs_back pairs_next
  next-free words =
      let half : min (max_replicas version) (machines p / 2) ≡ min (max_replicas p.version) (machines p / 2) = omega (arith, same) in
      rw (same, half)

  run-free : (limit : ℕ) (words : List ℕ) → run (with_version version p) limit words ≡ run p limit words
  unfolding run
  run-free zero words = rw (next-free words)
  run-free (suc limit) words = rw (next-free words, run-free limit (after words (next_step p words)))

  listing-free : (limit : ℕ) → listing_of (with_version version p) limit ≡ listing_of p limit
  unfolding listing_of plan_line block_line last_line report_of max_load_of min_load_of total_load_of max_share share_of load replicas
  listing-free limit = rw (first-free, run-free limit (first_placement p))

  all_counted-free : (words : List ℕ) → all_counted (with_version version p) words ≡ all_counted p words
  unfolding all_counted replicas
  all_counted-free words = ap (λ (count : ℕ → ℕ). allb (block_count p) (λ i. eqb (count_of p words i) (count i))) chosen-free

  placement_refusal-free : (words : List ℕ) → placement_refusal words (with_version version p) ≡ placement_refusal words p
  unfolding placement_refusal all_within all_spread all_fit all_apart kept_apart partner replicas replicas_in domains_used used is_paired pairs_back pairs_next
  placement_refusal-free words = rw (all_counted-free words)

pub versions-free : VersionsFree
versions-free version p same =
    record {
      counts = chosen-free version p same;
      first = first-free version p same;
      next = next-free version p same;
      runs = run-free version p same;
      listing = listing-free version p same;
    }

-- ── SameFields ───────────────────────────────────────────────────────────────────────────────────
-- bytes of a version that is read, as long as it wants, are judged by the rows between
rows-between : (bytes : List ℕ) (version : ℕ) → version_in bytes ≡ version → Described version
    → length bytes ≡ record_at (format_of version) (block_count_in bytes)
    → refusal bytes
    ≡ check2 (mark_in bytes)
    (check4 (racks_in bytes) (rack_size_in bytes)
    (check22 (racks_in bytes) (feeds_in bytes)
    (check5 (capacity_in bytes) (refuse_if (ltb max_blocks (block_count_in bytes)) 6 (plan_refusal (plan_in bytes))))))
unfolding refusal check1 check7
rows-between bytes version is described sized =
    let f = format_in bytes in
    let count = block_count_in bytes in
    let whole : length bytes ≡ record_at f count = sized ∙ ap (λ (v : ℕ). record_at (format_of v) count) (sym is) in
    rw (
      le-ltb (length bytes) 15 (omega arith),
      check3-read latest_version (version_in bytes) _ (rw is described.version-pos) (rw is described.version-max),
      check6-long f (length bytes) count _ (omega arith),
      eq-eqb (length bytes) (record_at f count) whole,
    )

-- The rows between that come before 23, handed what the later ones say; and 23, 10 and 11 in a version.
abbrev before23 : List ℕ → ℕ → ℕ
before23 bytes later =
    check2 (mark_in bytes)
    (check4 (racks_in bytes) (rack_size_in bytes)
    (check22 (racks_in bytes) (feeds_in bytes)
    (check5 (capacity_in bytes)
    (refuse_if (ltb max_blocks (block_count_in bytes)) 6
    (or_else (blocks_refusal (plan_in bytes))
    (or_else (pairs_refusal (plan_in bytes))
    later))))))

abbrev from23 : List ℕ → ℕ → ℕ
from23 bytes version = check23 version (racks_in bytes * rack_size_in bytes * capacity_in bytes) (budget_in bytes) (total_refusal (plan_in bytes))

module _ (from to : ℕ) (read-from : Described from) (read-to : Described to) (old new : List ℕ) (same : SameFields from to old new)
    (upper-same : SameUpper from to (racks_in old * rack_size_in old)) where
  plans : plan_in new ≡ with_version to (plan_in old)
  unfolding plan_in
  plans =
      let count = block_count_in old in
      let records =
      table-cong count (block_in (format_in new) new) (block_in (format_in old) old)
      (λ i l.
      ap (λ (v : ℕ). block_in (format_of v) new i) same.new-version
      ∙ same.records-same i l
      ∙ ap (λ (v : ℕ). block_in (format_of v) old i) (sym same.old-version))
      in
      rw (
        same.feeds-same,
        same.capacity-same,
        same.budget-same,
        same.blocks-same,
        records,
        same.new-version,
        same.racks-same,
        same.size_same,
      )

  plan-upper : (p : Plan) → p ≡ plan_in old → SameUpper p.version to (machines p)
  unfolding plan_in
  plan-upper p e = rw (e, same.old-version) upper-same

  old-refusal : refusal old ≡ before23 old (from23 old from)
  unfolding plan_refusal plan_in
  old-refusal =
      rows-between old from same.old-version read-from same.old-length
      ∙ ap (λ (version : ℕ). before23 old (from23 old version)) same.old-version

  new-refusal : refusal new ≡ before23 old (from23 old to)
  unfolding plan_in
  new-refusal =
      rows-between new to same.new-version read-to (rw same.blocks-same same.new-length)
      ∙ (rw (plans, same.mark-same, same.feeds-same, same.capacity-same, same.blocks-same, same.racks-same, same.size_same, plan_refusal-free to (plan_in old) (plan-upper (plan_in old) refl)))

module _ (from to : ℕ) (read-from : Described from) (read-to : Described to) (old new : List ℕ) (same : SameFields from to old new)
    (upper-same : SameUpper from to (racks_in old * rack_size_in old))
    (row23-same : SameRow23 from to (racks_in old * rack_size_in old * capacity_in old) (budget_in old)) where
  refusals : refusal new ≡ refusal old
  refusals =
      new-refusal from to read-from read-to old new same upper-same
      ∙ ap (λ (row : ℕ → ℕ). before23 old (row (total_refusal (plan_in old)))) row23-same
      ∙ sym (old-refusal from to read-from read-to old new same upper-same)

  verdicts : judge new ≡ verdict_with to (judge old)
  unfolding judge
  verdicts = rw (refusals, plans from to read-from read-to old new same upper-same) (go (refusal old))
    where
      go : (code : ℕ) → verdict code (with_version to (plan_in old)) ≡ verdict_with to (verdict code (plan_in old))
      go zero = refl
      go (suc code) = refl

-- ── Versions ─────────────────────────────────────────────────────────────────────────────────────
-- a call whose own rows and answer do not go by the version of the plan that is accepted
calls-free : {I A : Type 0} (version : ℕ) (v : Verdict) (items : List I) (rows : Plan → ℕ) (call : Plan → OutcomeOver I A)
    → ((p : Plan) → v ≡ accepted p → rows (with_version version p) ≡ rows p)
    → ((p : Plan) → v ≡ accepted p → call (with_version version p) ≡ call p)
    → on_plan (verdict_with version v) items rows call ≡ on_plan v items rows call
unfolding on_plan
calls-free version (refused code) items rows call r c = refl
calls-free version (accepted p) items rows call r c = rw (r p refl, c p refl)

-- where the verdict is the same but for the plan's version, and both versions allow as many copies, all answers are
module _ (to : ℕ) (old new : List ℕ) (e : judge new ≡ verdict_with to (judge old))
    (upper-same : (p : Plan) → judge old ≡ accepted p → SameUpper p.version to (machines p)) where
  rows_same : (words : List ℕ) (p : Plan) → judge old ≡ accepted p → placement_refusal words (with_version to p) ≡ placement_refusal words p
  rows_same words p a = placement_refusal-free to p (upper-same p a) words

  printed-same : (limit : ℕ) → printed new limit ≡ printed old limit
  unfolding printed printed_of
  printed-same limit = rw e (go (judge old) upper-same)
    where
      go : (v : Verdict) → ((p : Plan) → v ≡ accepted p → SameUpper p.version to (machines p))
          → printed_of (verdict_with to v) limit ≡ printed_of v limit
      go (refused code) l = refl
      go (accepted p) l = listing-free to p (l p refl) limit

  pub same-answers : SameAnswers to old new
  unfolding counts_call first_call check_call report_call step_call run_call on_placement report_of max_load_of min_load_of total_load_of max_share largest_share share_of load replicas read_call popularity_call read_refusal popularity_of is_paired pairs_back pairs_next partner
  same-answers =
      record {
        verdict = e;
        counts = λ items.
            rw e (calls-free to (judge old) items (buffer_refusal items) _ (λ p a. refl) (λ p a. rw (chosen-free to p (upper-same p a))));
        first = λ words.
            rw e
            (calls-free to (judge old) words (buffer_refusal words) _ (λ p a. refl)
            (λ p a. rw (fun_ext (first_word-free to p (upper-same p a)))));
        check = λ words. rw e (calls-free to (judge old) words (placement_refusal words) _ (rows_same words) (λ p a. refl));
        report = λ words. rw e (calls-free to (judge old) words (placement_refusal words) _ (rows_same words) (λ p a. refl));
        step = λ words.
            rw e
            (calls-free to (judge old) words (placement_refusal words) _ (rows_same words)
            (λ p a. rw (next-free to p (upper-same p a) words)));
        run = λ words limit.
            rw e
            (calls-free to (judge old) words (placement_refusal words) _ (rows_same words)
            (λ p a. rw (run-free to p (upper-same p a) limit words)));
        read = λ block tick list count.
            rw e (calls-free to (judge old) list (read_refusal block tick list count) _ (λ p a. refl) (λ p a. refl));
        popularity = λ block list count.
            rw e (calls-free to (judge old) list (λ p. check19 block (block_count p) 0) _ (λ p a. refl) (λ p a. refl));
        listing = printed-same;
      }

pub versions : Versions
versions from to read-from read-to old new same upper-same row23-same =
    same-answers to old new (verdicts from to read-from read-to old new same upper-same row23-same)
    (λ p a. plan-upper from to read-from read-to old new same upper-same p (accepted-laws old p a).held)

-- ── VersionsApart ────────────────────────────────────────────────────────────────────────────────
-- Rows that pass whatever the later ones say on, or that give the code of a row before 23.
abbrev Rows : (ℕ → ℕ) → Type 0
Rows rows = ((later : ℕ) → rows later ≡ later) ⊎ ((code : ℕ) × (PastRow23 code → ⊥) × ((later : ℕ) → rows later ≡ code))

not-past : (code : ℕ) → 1 ≤ code → (code ≤ 9) ⊎ (12 ≤ code) → PastRow23 code → ⊥
not-past code some (inl l) (inl e) = omega (arith, e)
not-past code some (inl l) (inr (inl e)) = omega (arith, e)
not-past code some (inl l) (inr (inr e)) = omega (arith, e)
not-past code some (inr l) (inl e) = omega (arith, e)
not-past code some (inr l) (inr (inl e)) = omega (arith, e)
not-past code some (inr l) (inr (inr e)) = omega (arith, e)

row-then : (t : Bool) (code : ℕ) → 1 ≤ code → (code ≤ 9) ⊎ (12 ≤ code) → (rows : ℕ → ℕ) → Rows rows → Rows (λ later. refuse_if t code (rows later))
row-then true code some early rows h = inr (code, not-past code some early, λ later. refl)
row-then false code some early rows h = h

found-then : (found : ℕ) → (found ≤ 9) ⊎ (12 ≤ found) → (rows : ℕ → ℕ) → Rows rows → Rows (λ later. or_else found (rows later))
found-then zero early rows h = h
found-then (suc found) early rows h = inr (suc found, not-past (suc found) (omega arith) early, λ later. refl)

rows-before23 : (bytes : List ℕ) → Rows (before23 bytes)
unfolding check2 check4 check22 check5
rows-before23 bytes =
    let r = racks_in bytes in
    let s = rack_size_in bytes in
    let f = feeds_in bytes in
    let c = capacity_in bytes in
    let p = plan_in bytes in
    row-then (not (eqb (mark_in bytes) mark)) 2 (lit≤ tt) (inl (lit≤ tt)) _
    (row-then (eqb r 0 || eqb s 0 || ltb max_machines (r * s)) 4 (lit≤ tt) (inl (lit≤ tt)) _
    (row-then (eqb f 0 || not (eqb (r % f) 0)) 22 (lit≤ tt) (inr (lit≤ tt)) _
    (row-then (eqb c 0 || ltb max_capacity c) 5 (lit≤ tt) (inl (lit≤ tt)) _
    (row-then (ltb max_blocks (block_count_in bytes)) 6 (lit≤ tt) (inl (lit≤ tt)) _
    (found-then (blocks_refusal p) (inl (blocks_refusal-le p)) _
    (found-then (pairs_refusal p) (pairs (pairs_refusal-cases p)) _
    (inl (λ later. refl))))))))
  where
    pairs : (pairs_refusal (plan_in bytes) ≡ 17) ⊎ (pairs_refusal (plan_in bytes) ≡ 0) → (pairs_refusal (plan_in bytes) ≤ 9) ⊎ (12 ≤ pairs_refusal (plan_in bytes))
    pairs (inl e) = inr (omega (arith, e))
    pairs (inr e) = inl (omega (arith, e))

-- the codes of rows 10 and 11
total-past : (p : Plan) → PastRow23 (total_refusal p)
total-past p = ⊎_elim (λ over. ⊎_elim inl (λ e. inr (inl e)) over.0) (λ e. inr (inr e)) (total-cases p)

pub versions-apart : VersionsApart
versions-apart from read-from early old new same upper-same above = go (rows-before23 old)
  where
    read-to : Described 4
    read-to = record { version-pos = omega arith; version-max = omega arith }

    was : refusal old ≡ before23 old (total_refusal (plan_in old))
    was = old-refusal from 4 read-from read-to old new same upper-same ∙ ap (before23 old) (check23-early from _ _ _ early)

    is : refusal new ≡ before23 old 23
    is = new-refusal from 4 read-from read-to old new same upper-same ∙ ap (before23 old) (check23-above 4 _ _ _ (omega arith) above)

    go : Rows (before23 old) → TurnedBack old new
    go (inl pass) =
        let passed : PastRow23 (refusal old) = subst PastRow23 (sym (was ∙ pass _)) (total-past (plan_in old)) in
        record { earlier = λ not. absurd (not passed); later = λ past. is ∙ pass 23 }
    go (inr (code, early-code, rows)) =
        record {
          earlier = λ not. is ∙ rows 23 ∙ sym (was ∙ rows _);
          later = λ past. absurd (early-code (subst PastRow23 (was ∙ rows _) past));
        }
