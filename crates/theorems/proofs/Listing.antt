-- What the document shows of the listing, by computing the definitions, and that every listing fits its room.
-- Assumes nothing.
use mathlib.Core.Path.{◌≡◌, refl, ap, ◌∙◌}
use mathlib.Core.List.{List, [], ◌∷◌, ◌++◌}
use Prim.Native.Nat.{ℕ, zero, suc, ◌^◌, ◌<◌, ◌≤◌}
use native.Mathlib.Omega.{arith}
use lib.ListN.{length, get_or}
use Rattle.order.specs.Sum.{sum}
use Rattle.order.specs.Table.{table, joined}
use Rattle.order.specs.Search.{first_up, least, allb, largest, smallest}
use Rattle.model.specs.Plan.{Plan, block_count, block_of, max_replicas, upper, min_total, version_in, field, format_of, format_in, record_at, block_in, plan_in, is_paired, pairs_back, pairs_next, partner}
use Rattle.model.specs.Refusal.{check1, refusal, Verdict, accepted, judge}
use Rattle.model.specs.Replication.{copy_limit, share, need, chosen}
use Rattle.model.specs.Placement.{bit, replicas, replicas_in, domains_used, used, all_within, all_spread, all_fit, counts_feasible, is_feasible, position, laid_word, first_word, first_placement, share_of, load, max_load_of, min_load_of, total_load_of, max_share, all_apart, kept_apart}
use Rattle.model.specs.Steps.{shifted, after_move, after_swap, after, improves, can_move, can_swap, routes, next_move, next_swap, next_step, Run, run}
use Rattle.model.specs.Calls.{report_of}
use Rattle.model.specs.Listing.{digits, decimal, number_field, fields, line, plan_line, holders, block_line, last_line, listing_of, refused_line, printed_of, printed, step_limit, listing_room}
use Rattle.theory.specs.Widths.{share_bound}
use Rattle.theory.proofs.Plan.{field_bound, field-narrow, format_of-popularity, plan_in-block_count, plan_in-block_of}
use Rattle.theory.proofs.Refusal.{refusal-le, refusal-zero, judge-refused, judge-accepted}
use Rattle.theory.proofs.Replication.{share-bound}
use Rattle.theory.proofs.Listing.{listing_of-fits, refused_line-length, printed-refused, printed-accepted}
use Rattle.theorems.specs.Trials.{plan-H}
use Rattle.theorems.specs.Listing.{listing-H, listing-empty, ListingLaws}
use Rattle.theorems.proofs.Trials.{figures, trials}

-- the lines of a run
unfoldable pub run_lines : Plan → Run → List ℕ
run_lines p r = plan_line p ++ joined (block_count p) (block_line p r.words) ++ last_line p r

-- what is printed, from the first placement and the run that starts there
pub printed-run : (bytes words text : List ℕ) → judge bytes ≡ accepted (plan_in bytes) → first_placement (plan_in bytes) ≡ words
    → run_lines (plan_in bytes) (run (plan_in bytes) step_limit words) ≡ text
    → printed bytes step_limit ≡ text
unfolding printed printed_of listing_of run_lines
printed-run bytes words text accepts first lines =
    ap (λ (v : Verdict). printed_of v step_limit) accepts
    ∙ ap (λ (w : List ℕ). run_lines (plan_in bytes) (run (plan_in bytes) step_limit w)) first
    ∙ lines

-- plan H's first placement, at rest
H-first : first_placement (plan_in plan-H) ≡ 15 ∷ 5 ∷ 2 ∷ []
unfolding first_placement plan_in block_in format_of field upper max_replicas is_paired pairs_back pairs_next chosen position laid_word first_word need share sum table least plan-H
H-first = rw figures.H refl

H-lines : run_lines (plan_in plan-H) (run (plan_in plan-H) step_limit (15 ∷ 5 ∷ 2 ∷ [])) ≡ listing-H
unfolding run_lines last_line plan_line block_line joined holders line fields number_field decimal digits report_of max_load_of min_load_of total_load_of max_share plan_in block_in format_of field upper max_replicas is_paired pairs_back pairs_next min_total shifted after_move after_swap after improves can_move can_swap routes next_move next_swap next_step run bit replicas replicas_in domains_used used all_within all_spread all_fit all_apart kept_apart partner counts_feasible is_feasible share_of load largest smallest share copy_limit sum table allb first_up plan-H listing-H
H-lines = refl

empty-printed : (limit : ℕ) → printed [] limit ≡ listing-empty
unfolding printed printed_of refused_line line fields number_field decimal digits judge refusal check1 listing-empty
empty-printed limit = refl

-- shares are within their bound, since a popularity is within its own
share-fits : (bytes : List ℕ) → ((i : ℕ) → get_or bytes i 0 < 256) → (count : ℕ → ℕ) (i : ℕ) → i < block_count (plan_in bytes)
    → share (block_of (plan_in bytes) i).popularity (count i) < share_bound
unfolding block_in
share-fits bytes h count i l =
    rw (plan_in-block_of bytes i (rw (plan_in-block_count bytes) at l))
    (share-bound _ (count i) (field-narrow _ _ _ (field_bound bytes h (record_at (format_in bytes) i) _) (format_of-popularity (version_in bytes))))

pub listing-laws : ListingLaws
listing-laws =
    record {
      H = printed-run plan-H _ _ trials.H-accepted H-first H-lines;
      empty = empty-printed;
      fits = λ bytes h limit l. go bytes h limit l (refusal bytes) refl (refusal-le bytes);
    }
  where
    go : (bytes : List ℕ) → ((i : ℕ) → get_or bytes i 0 < 256) → (limit : ℕ) → limit < 2 ^ 32
        → (code : ℕ) → refusal bytes ≡ code → code ≤ 23 → length (printed bytes limit) ≤ listing_room
    go bytes h limit l zero e m =
        rw (printed-accepted bytes limit (plan_in bytes) (judge-accepted bytes e))
        (listing_of-fits (plan_in bytes) (refusal-zero bytes e) (share-fits bytes h (chosen (plan_in bytes))) limit l)
    go bytes h limit l (suc code) e m =
        rw (printed-refused bytes limit (suc code) (judge-refused bytes (suc code) e (omega arith)))
        (omega (arith, refused_line-length (suc code) (omega arith)))
