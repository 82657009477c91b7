-- The small examples of the table, and plan H, by computing the model's verdict and check.
-- Assumes nothing.
use mathlib.Core.Path.{◌≡◌, refl}
use Rattle.order.specs.Sum.{sum}
use Rattle.order.specs.Table.{table, filled}
use Rattle.order.specs.Search.{first_up, least, allb, largest}
use Rattle.model.specs.Plan.{max_replicas, upper, min_total, field, format_of, block_in, plan_in, is_paired, pairs_back, pairs_next, partner}
use Rattle.model.specs.Refusal.{check1, check2, check3, check4, check22, check5, check6, check7, check8, check9, block_refusal, blocks_refusal, check23, check10, check11, check12, plan_refusal, refusal, judge, pairs_refusal, pair_refusal, check17, alike}
use Rattle.model.specs.Replication.{copy_limit, share, largest_share, need, reachable, figure, chosen}
use Rattle.model.specs.Placement.{bit, replicas, replicas_in, domains_used, used, all_within, all_spread, all_fit, all_apart, kept_apart, first_word, laid_word, position}
use Rattle.model.specs.Calls.{on_plan, unless, all_counted, placement_refusal, on_placement, check_call, counts_call, first_call}
use Rattle.theorems.specs.Trials.{plan-H, plan-full}
use Rattle.theorems.specs.RowExamples.{H-with, plan-pair, plan-ten, RowExamples}
use Rattle.theorems.proofs.Trials.{figure-of, figures}

-- H with C 2 has as many places as its budget, and the same figure.
H-C2 : figure (plan_in (H-with 8 2)) ≡ 7560
unfolding refusal check1 check2 check3 check4 check22 check5 check6 check7 plan_refusal blocks_refusal block_refusal check8 check9 pairs_refusal pair_refusal check17 alike check23 check10 check11 plan_in block_in format_of field upper max_replicas is_paired pairs_back pairs_next min_total reachable need share copy_limit sum table least allb first_up plan-H
H-C2 = figure-of (H-with 8 2) 7559 refl refl refl

-- The pair keeps its shares within 7,560 with two copies each.
pair-figure : figure (plan_in plan-pair) ≡ 7560
unfolding refusal check1 check2 check3 check4 check22 check5 check6 check7 plan_refusal blocks_refusal block_refusal check8 check9 pairs_refusal pair_refusal check17 alike check23 check10 check11 plan_in block_in format_of field upper max_replicas is_paired pairs_back pairs_next min_total reachable need share copy_limit sum table least allb first_up plan-pair
pair-figure = figure-of plan-pair 7559 refl refl refl

pub row-examples : RowExamples
unfolding judge refusal check1 check2 check3 check4 check22 check5 check6 check7 plan_refusal blocks_refusal block_refusal check8 check9 pairs_refusal pair_refusal check17 alike check23 check10 check11 check12 plan_in block_in format_of field upper max_replicas is_paired pairs_back pairs_next min_total copy_limit share need chosen bit replicas replicas_in domains_used used all_within all_spread all_fit all_apart kept_apart partner on_plan unless all_counted placement_refusal on_placement check_call counts_call first_call filled first_word laid_word position largest_share largest sum table first_up least allb plan-H plan-full plan-pair plan-ten
row-examples =
    record {
      row1 = refl;
      row2 = refl;
      row3 = refl;
      row3-zero = refl;
      row4 = refl;
      row5 = refl;
      row6 = refl;
      row7 = refl;
      row7-version = refl;
      row8 = refl;
      row9 = refl;
      row10 = refl;
      row11 = refl;
      row12 = refl;
      row13 = refl;
      row14 = rw figures.H refl;
      row15 = rw figures.H4 refl;
      row16 = rw H-C2 refl;
      row17-byte = refl;
      row17-last = refl;
      row17-successive = refl;
      row17-popularity = refl;
      row17-copies = refl;
      row17-spread = refl;
      row18 = rw pair-figure refl;
      row8-first = refl;
      row8-second = refl;
      row8-byte = refl;
      row8-eight = refl;
      row8-nine = refl;
      row8-ten = refl;
      row8-eleven = refl;
      row8-eleven-paired = refl;
      row8-half = refl;
      after-nine = refl;
      before-ten = refl;
      ten = refl;
      pair-counts = rw pair-figure refl;
      pair-first = rw pair-figure refl;
      pair-passes = rw pair-figure refl;
      within_block = refl;
      block-by-block = refl;
      H = refl;
    }
