-- What is said of version 4 files: the file of 15 bytes by its rows, the examples by computing the definitions.
-- Assumes nothing.
use mathlib.Core.Path.{◌≡◌, refl, ap, ◌∙◌}
use Prim.Native.Nat.{ℕ}
use native.Mathlib.Omega.{arith}
use borrow.Author.Tests.{ne_eqb}
use lib.ListN.{length}
use Rattle.order.specs.Sum.{sum}
use Rattle.order.specs.Table.{table, filled}
use Rattle.order.specs.Search.{first_up, least, allb, largest}
use Rattle.model.specs.Plan.{max_replicas, upper, min_total, field, format_of, format_in, block_count_in, record_at, block_in, plan_in, is_paired, pairs_back, pairs_next, partner}
use Rattle.model.specs.Refusal.{check1, check2, check3, check4, check22, check5, check6, check7, check8, check9, block_refusal, blocks_refusal, check23, check10, check11, check12, plan_refusal, refusal, judge, pairs_refusal, pair_refusal, check17, alike}
use Rattle.model.specs.Replication.{copy_limit, share, need, reachable, figure, chosen}
use Rattle.model.specs.Placement.{bit, replicas, replicas_in, domains_used, used, all_within, all_spread, all_fit, counts_feasible, is_feasible, position, laid_word, first_word, share_of, load, all_apart, kept_apart}
use Rattle.model.specs.Steps.{shifted, after_move, after_swap, after, improves, can_move, can_swap, routes, next_move, next_swap, next_step}
use Rattle.model.specs.Calls.{on_plan, unless, first_call, all_counted, placement_refusal, on_placement, step_call, check_call}
use Rattle.theory.proofs.Refusal.{check6-short}
use Rattle.theorems.specs.Feeds.{ShortFile, plan-feeds, feeds-with, FeedExamples}
use Rattle.theorems.proofs.Trials.{figure-of}

-- ── ShortFile ────────────────────────────────────────────────────────────────────────────────────
has-feeds : (format_of 4).feeds_width ≡ 1
unfolding format_of
has-feeds = refl

pub short-file : ShortFile
unfolding refusal check1 check2 check3 check7
short-file bytes long marked version =
    let f = format_in bytes in
    let width : f.feeds_width ≡ 1 = ap (λ (v : ℕ). (format_of v).feeds_width) version ∙ has-feeds in
    let count = block_count_in bytes in
    rw (
      check6-short f (length bytes) count _ (omega arith),
      ne_eqb (length bytes) (record_at f count) (λ e. omega arith),
      long,
      marked,
      version,
    )

-- ── FeedExamples ─────────────────────────────────────────────────────────────────────────────────
figure-two : figure (plan_in plan-feeds) ≡ 7560
unfolding refusal check1 check2 check3 check4 check22 check5 check6 check7 plan_refusal blocks_refusal block_refusal check8 check9 pairs_refusal pair_refusal check17 alike check23 check10 check11 plan_in block_in format_of field upper max_replicas is_paired pairs_back pairs_next min_total reachable need share copy_limit sum table least allb first_up plan-feeds
figure-two = figure-of plan-feeds 7559 refl refl refl

figure-four : figure (plan_in (feeds-with 7 4)) ≡ 7560
unfolding refusal check1 check2 check3 check4 check22 check5 check6 check7 plan_refusal blocks_refusal block_refusal check8 check9 pairs_refusal pair_refusal check17 alike check23 check10 check11 plan_in block_in format_of field upper max_replicas is_paired pairs_back pairs_next min_total reachable need share copy_limit sum table least allb first_up plan-feeds
figure-four = figure-of (feeds-with 7 4) 7559 refl refl refl

pub feed-examples : FeedExamples
unfolding first_call step_call check_call on_plan unless on_placement placement_refusal all_counted judge refusal check1 check2 check3 check4 check22 check5 check6 check7 plan_refusal blocks_refusal block_refusal check8 check9 pairs_refusal pair_refusal check17 alike check23 check10 check11 plan_in block_in format_of field upper max_replicas is_paired pairs_back pairs_next min_total check12 chosen position laid_word first_word shifted after_move after_swap after improves can_move can_swap routes next_move next_swap next_step bit replicas replicas_in domains_used used all_within all_spread all_fit all_apart kept_apart partner counts_feasible is_feasible share_of load filled largest need share copy_limit sum table least allb first_up plan-feeds
feed-examples =
    record {
      row22-zero = refl;
      row22-three = refl;
      row22-above = refl;
      two = refl;
      all-racks = refl;
      after-four = refl;
      before-five = refl;
      short = refl;
      short-feeds = refl;
      short-capacity = refl;
      row9 = refl;
      first = rw figure-two refl;
      row15 = rw figure-two refl;
      spread-met = rw figure-four refl;
      one-feed = rw figure-two refl;
      feed-kept = rw figure-two refl;
      feed-left = rw figure-four refl;
    }
