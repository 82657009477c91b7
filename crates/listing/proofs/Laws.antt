-- From the run and the loads to the listing's lines.
-- Assumes nothing.
use mathlib.Core.Path.{◌≡◌, refl, ap, ap₂, sym, ◌∙◌}
use mathlib.Core.List.{List, [], ◌∷◌, ◌++◌, append-nil}
use Prim.Native.Nat.{ℕ, ◌-◌, ◌^◌, ◌<◌, ◌≤◌}
use native.Mathlib.Nat.{le_of_eq}
use native.Mathlib.Omega.{arith}
use lib.ListN.{length, get_or, drop_of_length-le}
use Rattle.order.specs.Table.{table, filled, joined}
use Rattle.order.proofs.Tables.{joined-cong}
use Rattle.model.specs.Plan.{Plan, machines, block_count, block_of}
use Rattle.model.specs.Refusal.{max_machines}
use Rattle.model.specs.Replication.{share, chosen}
use Rattle.model.specs.Placement.{word_of, count_of, first_word, first_placement, max_load_of, min_load_of}
use Rattle.model.specs.Steps.{Run, run}
use Rattle.model.specs.Calls.{report_of}
use Rattle.model.specs.Listing.{line, plan_line, holders, block_line, end_word, last_line, listing_of, listing_room}
use Rattle.theory.specs.Widths.{share_bound}
use Rattle.theory.proofs.PlacementFirst.{first_placement-feasible}
use Rattle.theory.proofs.Listing.{holders-past, listing_of-feasible, listing_of-fits}
use Rattle.cluster.specs.declared.Cluster.{Cluster}
use Rattle.cluster.specs.Blocks.{count_in, ProfilesOf, PlacementOf}
use Rattle.cluster.proofs.Laws.{cluster-blocks, profiles-share, profiles-count, placement-share}
use Rattle.balance.specs.declared.Ran.{Ran}
use Rattle.balance.specs.declared.Ran.TheVariants.{Rested, Spent}
use Rattle.balance.specs.Standing.{ran_of}
use Rattle.text.specs.Pasted.{Room, Put}
use Rattle.lines.specs.declared.FirstRun.{FirstRun}
use Rattle.lines.specs.Rows.{number_row, row_at, first_row, rows, number_end, ended_row, end_row, all_rows}
use Rattle.listing.specs.FirstRun.{FirstRunAs}

-- B words filled are the first placement
pub first_of : (p : Plan) (words : List ℕ) → length words ≡ block_count p → filled (block_count p) (first_word p) words ≡ first_placement p
unfolding filled first_placement
first_of p words e =
    ap (λ (s : List ℕ). table (block_count p) (first_word p) ++ s) (drop_of_length-le words (le_of_eq e)) ∙ append-nil _

-- the first placement, where it is laid down
pub first-placement : (p : Plan) (c : Cluster) (profiles : List ℕ) (of : ProfilesOf p (chosen p) c profiles) (words later : List ℕ)
    → length words ≡ c.blocks → later ≡ filled (block_count p) (first_word p) words
    → PlacementOf p (chosen p) c later profiles × (later ≡ first_placement p)
first-placement p c profiles of words later sized e =
    let valid = of.cluster.valid in
    let same = e ∙ first_of p words (sized ∙ cluster-blocks p c of.cluster) in (
      record { profiles-of = of; feasible = rw same (first_placement-feasible p valid) },
      same,
    )

-- ── ran_of and ended_row ──────────────────────────────────────────────────────────────────────────
ran-words : (ran : Ran) (words : List ℕ) → (ran_of ran words).words ≡ words
unfolding ran_of
ran-words (Rested steps) words = refl
ran-words (Spent steps) words = refl

ended_as : (ran : Ran) (words : List ℕ) (r : FirstRun)
    → ended_row ran r ≡ number_end (end_word (ran_of ran words).rested) (ran_of ran words).steps r
unfolding ended_row ran_of
ended_as (Rested steps) words r = refl
ended_as (Spent steps) words r = refl

-- the placement after the run
pub run-placement : (p : Plan) (c : Cluster) (limit : ℕ) (profiles : List ℕ) → ProfilesOf p (chosen p) c profiles
    → (ran : Ran) (words : List ℕ) → ran_of ran words ≡ run p limit (first_placement p) → PlacementOf p (chosen p) c words profiles
run-placement p c limit profiles of ran words e =
    record {
      profiles-of = of;
      feasible = rw (sym (ran-words ran words) ∙ ap (λ (q : Run). q.words) e) (listing_of-feasible p of.cluster.valid limit);
    }

-- the lines of a plan whose run is given
module _ (p : Plan) (c : Cluster) (limit : ℕ) (profiles words : List ℕ) (r : FirstRun)
    (made : FirstRunAs p c limit profiles words r) where
  placement : PlacementOf p (chosen p) c words profiles
  placement = run-placement p c limit profiles made.profiles-of r.ran words made.run_is

  all : c.blocks ≡ block_count p
  all = cluster-blocks p c made.profiles-of.cluster

  row_is : (i : ℕ) → i < c.blocks → row_at profiles words i ≡ block_line p words i
  unfolding row_at number_row block_line
  row_is i l =
      let feasible = placement.feasible in
      let m = rw all at l in
      let few = made.profiles-of.cluster.valid.shaped.machines-max in
      let count : count_in (get_or profiles i 0) ≡ count_of p words i =
      profiles-count p (chosen p) c profiles made.profiles-of feasible.counts.at_most i l ∙ sym (feasible.counted i m)
      in
      let past = holders-past (word_of words i) (machines p) (max_machines - machines p) (feasible.within i m) in
      let held : holders (word_of words i) max_machines ≡ holders (word_of words i) (machines p) =
      ap (holders (word_of words i)) (omega arith) ∙ past
      in
      rw (count, placement-share p (chosen p) c words profiles placement i l, held)

  abbrev ran : Run
  ran = ran_of r.ran words

  end_is : end_row r ≡ last_line p (run p limit (first_placement p))
  unfolding last_line report_of
  end_is =
      ended_as r.ran words r
      ∙ ap₂ (λ (n m : ℕ). line (end_word ran.rested) (ran.steps ∷ n ∷ m ∷ r.report.total_load ∷ r.top ∷ [])) made.max-is made.min-is
      ∙ ap₂ (λ (n m : ℕ). line (end_word ran.rested) (ran.steps ∷ max_load_of p words ∷ min_load_of p words ∷ n ∷ m ∷ [])) made.total-is made.top-is
      ∙ ap (λ (placed : List ℕ). last_line p (record { rested = ran.rested; steps = ran.steps; words = placed })) (sym (ran-words r.ran words))
      ∙ ap (last_line p) made.run_is

  listing-is : all_rows c profiles words r ≡ listing_of p limit
  unfolding listing_of plan_line
  listing-is =
      let of = made.profiles-of.cluster in
      let blocks : rows c profiles words ≡ joined (block_count p) (block_line p (run p limit (first_placement p)).words) =
      joined-cong c.blocks _ _ row_is
      ∙ ap (λ (n : ℕ). joined n (block_line p words)) all
      ∙ ap (λ (placed : List ℕ). joined (block_count p) (block_line p placed)) (sym (ran-words r.ran words))
      ∙ ap (λ (q : Run). joined (block_count p) (block_line p q.words)) made.run_is
      in
      ap₂ (λ (s t : List ℕ). first_row c ++ s ++ t) blocks end_is
      ∙ ap (λ (k : Cluster). first_row k ++ joined (block_count p) (block_line p (run p limit (first_placement p)).words)
      ++ last_line p (run p limit (first_placement p))) of.is

  -- every listing has room
  pub whole_room : limit < 2 ^ 32 → (text : List ℕ) → listing_room ≤ length text → Room 0 (all_rows c profiles words r) text
  whole_room l text room =
      let fit = made.fits.profiles-fit in
      let narrow : (i : ℕ) → i < block_count p → share (block_of p i).popularity (chosen p i) < share_bound =
      λ i m.
      let k = rw (← all) at m in
      omega (arith, fit.narrow i k, profiles-share p (chosen p) c profiles made.profiles-of placement.feasible.counts.at_most i k)
      in
      rw listing-is (record { fits = omega (arith, listing_of-fits p made.profiles-of.cluster.valid narrow limit l) })

  pub whole-put : {old text : List ℕ} {next : ℕ} → Put 0 (all_rows c profiles words r) old text next
      → Put 0 (listing_of p limit) old text next
  whole-put put = rw listing-is at put
