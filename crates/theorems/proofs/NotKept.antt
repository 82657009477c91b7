-- A plan with M above 8 that the converter gives a copy more, by computing the definitions in either version.
-- Assumes nothing.
use mathlib.Core.Path.{◌≡◌, refl}
use mathlib.Core.List.{[], ◌∷◌}
use Rattle.order.specs.Sum.{sum}
use Rattle.order.specs.Table.{table, filled, joined}
use Rattle.order.specs.Search.{first_up, least, allb, largest, smallest}
use Rattle.model.specs.Plan.{max_replicas, upper, min_total, field, format_of, block_in, plan_in, is_paired, pairs_back, pairs_next, partner}
use Rattle.model.specs.Refusal.{check1, check2, check3, check4, check22, check5, check6, check7, check8, check9, block_refusal, blocks_refusal, check23, check10, check11, check12, plan_refusal, refusal, judge, accepted, pairs_refusal, pair_refusal, check17, alike}
use Rattle.model.specs.Replication.{copy_limit, share, largest_share, need, reachable, figure, chosen}
use Rattle.model.specs.Placement.{bit, replicas, replicas_in, domains_used, used, all_within, all_spread, all_fit, counts_feasible, is_feasible, position, laid_word, first_word, first_placement, share_of, load, max_load_of, min_load_of, total_load_of, max_share, all_apart, kept_apart}
use Rattle.model.specs.Steps.{shifted, after_move, after_swap, after, improves, can_move, can_swap, routes, next_move, next_swap, next_step, run}
use Rattle.model.specs.Calls.{on_plan, unless, counts_call, first_call, report_of}
use Rattle.model.specs.Listing.{digits, decimal, number_field, fields, line, plan_line, holders, block_line, last_line, step_limit}
use Rattle.model.specs.Writing.{bytes_of, header_bytes, record_bytes, plan_bytes}
use Rattle.model.specs.Conversion.{converted}
use Rattle.theorems.specs.Trials.{gives}
use Rattle.theorems.specs.Conversion.{plan-nine, wide-nine, listing-eight, listing-nine, NotKept}
use Rattle.theorems.proofs.Trials.{figure-of}
use Rattle.theorems.proofs.Listing.{run_lines, printed-run}

-- ── plan-nine ─────────────────────────────────────────────────────────────────────────────────
old-accepted : judge plan-nine ≡ accepted (plan_in plan-nine)
unfolding judge refusal check1 check2 check3 check4 check22 check5 check6 check7 plan_refusal blocks_refusal block_refusal check8 check9 pairs_refusal pair_refusal check17 alike check23 check10 check11 plan_in block_in format_of field upper max_replicas is_paired pairs_back pairs_next min_total sum table first_up plan-nine
old-accepted = refl

old-figure : figure (plan_in plan-nine) ≡ 315
unfolding refusal check1 check2 check3 check4 check22 check5 check6 check7 plan_refusal blocks_refusal block_refusal check8 check9 pairs_refusal pair_refusal check17 alike check23 check10 check11 plan_in block_in format_of field upper max_replicas is_paired pairs_back pairs_next min_total reachable need share copy_limit sum table least allb first_up plan-nine
old-figure = figure-of plan-nine 314 refl refl refl

old-counts : counts_call plan-nine (0 ∷ []) ≡ gives 315 (8 ∷ [])
unfolding counts_call on_plan unless judge refusal check1 check2 check3 check4 check22 check5 check6 check7 plan_refusal blocks_refusal block_refusal check8 check9 pairs_refusal pair_refusal check17 alike check23 check10 check11 plan_in block_in format_of field upper max_replicas is_paired pairs_back pairs_next min_total check12 chosen largest_share filled largest need share sum table least first_up plan-nine
old-counts = rw old-figure refl

old-word : first_placement (plan_in plan-nine) ≡ 255 ∷ []
unfolding first_placement plan_in block_in format_of field upper max_replicas is_paired pairs_back pairs_next chosen position laid_word first_word need share sum table least plan-nine
old-word = rw old-figure refl

old-first : first_call plan-nine (0 ∷ []) ≡ gives 1 (255 ∷ [])
unfolding first_call on_plan unless judge refusal check1 check2 check3 check4 check22 check5 check6 check7 plan_refusal blocks_refusal block_refusal check8 check9 pairs_refusal pair_refusal check17 alike check23 check10 check11 plan_in block_in format_of field upper max_replicas is_paired pairs_back pairs_next min_total check12 chosen position laid_word first_word filled need share sum table least first_up plan-nine
old-first = rw old-figure refl

old-lines : run_lines (plan_in plan-nine) (run (plan_in plan-nine) step_limit (255 ∷ [])) ≡ listing-eight
unfolding run_lines last_line plan_line block_line joined holders line fields number_field decimal digits report_of max_load_of min_load_of total_load_of max_share plan_in block_in format_of field upper max_replicas is_paired pairs_back pairs_next min_total shifted after_move after_swap after improves can_move can_swap routes next_move next_swap next_step run bit replicas replicas_in domains_used used all_within all_spread all_fit all_apart kept_apart partner counts_feasible is_feasible share_of load largest smallest share copy_limit sum table allb first_up plan-nine listing-eight
old-lines = refl

-- ── wide-nine ─────────────────────────────────────────────────────────────────────────────────
wide-accepted : judge wide-nine ≡ accepted (plan_in wide-nine)
unfolding judge refusal check1 check2 check3 check4 check22 check5 check6 check7 plan_refusal blocks_refusal block_refusal check8 check9 pairs_refusal pair_refusal check17 alike check23 check10 check11 plan_in block_in format_of field upper max_replicas is_paired pairs_back pairs_next min_total sum table first_up wide-nine
wide-accepted = refl

wide-figure : figure (plan_in wide-nine) ≡ 280
unfolding refusal check1 check2 check3 check4 check22 check5 check6 check7 plan_refusal blocks_refusal block_refusal check8 check9 pairs_refusal pair_refusal check17 alike check23 check10 check11 plan_in block_in format_of field upper max_replicas is_paired pairs_back pairs_next min_total reachable need share copy_limit sum table least allb first_up wide-nine
wide-figure = figure-of wide-nine 279 refl refl refl

wide-counts : counts_call wide-nine (0 ∷ []) ≡ gives 280 (9 ∷ [])
unfolding counts_call on_plan unless judge refusal check1 check2 check3 check4 check22 check5 check6 check7 plan_refusal blocks_refusal block_refusal check8 check9 pairs_refusal pair_refusal check17 alike check23 check10 check11 plan_in block_in format_of field upper max_replicas is_paired pairs_back pairs_next min_total check12 chosen largest_share filled largest need share sum table least first_up wide-nine
wide-counts = rw wide-figure refl

wide_word : first_placement (plan_in wide-nine) ≡ 511 ∷ []
unfolding first_placement plan_in block_in format_of field upper max_replicas is_paired pairs_back pairs_next chosen position laid_word first_word need share sum table least wide-nine
wide_word = rw wide-figure refl

wide-first : first_call wide-nine (0 ∷ []) ≡ gives 1 (511 ∷ [])
unfolding first_call on_plan unless judge refusal check1 check2 check3 check4 check22 check5 check6 check7 plan_refusal blocks_refusal block_refusal check8 check9 pairs_refusal pair_refusal check17 alike check23 check10 check11 plan_in block_in format_of field upper max_replicas is_paired pairs_back pairs_next min_total check12 chosen position laid_word first_word filled need share sum table least first_up wide-nine
wide-first = rw wide-figure refl

wide-lines : run_lines (plan_in wide-nine) (run (plan_in wide-nine) step_limit (511 ∷ [])) ≡ listing-nine
unfolding run_lines last_line plan_line block_line joined holders line fields number_field decimal digits report_of max_load_of min_load_of total_load_of max_share plan_in block_in format_of field upper max_replicas is_paired pairs_back pairs_next min_total shifted after_move after_swap after improves can_move can_swap routes next_move next_swap next_step run bit replicas replicas_in domains_used used all_within all_spread all_fit all_apart kept_apart partner counts_feasible is_feasible share_of load largest smallest share copy_limit sum table allb first_up wide-nine listing-nine
wide-lines = refl

-- ── NotKept ──────────────────────────────────────────────────────────────────────────────────────
nine-converted : converted (plan_in plan-nine) ≡ wide-nine
unfolding converted plan_bytes header_bytes record_bytes bytes_of joined plan_in block_in format_of field table plan-nine wide-nine
nine-converted = refl

pub not-kept : NotKept
not-kept =
    record {
      converts = nine-converted;
      counts = old-counts;
      wide-counts = wide-counts;
      first = old-first;
      wide-first = wide-first;
      listing = printed-run plan-nine _ _ old-accepted old-word old-lines;
      wide-listing = printed-run wide-nine _ _ wide-accepted wide_word wide-lines;
    }
