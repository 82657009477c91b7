-- Document 01, "Trial plans": those with a star, by computing the definitions.
-- Assumes nothing.
use mathlib.Core.Path.{◌≡◌, refl}
use mathlib.Core.List.{List}
use mathlib.Core.Bool.{true, false}
use Prim.Native.Nat.{ℕ, suc}
use lib.ListN.{set}
use Rattle.order.specs.Sum.{sum}
use Rattle.order.specs.Table.{table, filled}
use Rattle.order.specs.Search.{first_up, least, allb, largest}
use Rattle.model.specs.Plan.{max_replicas, upper, min_total, field, format_of, block_in, plan_in, is_paired, pairs_back, pairs_next, partner}
use Rattle.model.specs.Refusal.{check1, check2, check3, check4, check22, check5, check6, check7, check8, check9, block_refusal, blocks_refusal, check23, check10, check11, check12, plan_refusal, refusal, judge, pairs_refusal, pair_refusal, check17, alike}
use Rattle.model.specs.Replication.{copy_limit, share, largest_share, need, reachable, figure, chosen}
use Rattle.model.specs.Placement.{bit, replicas, replicas_in, domains_used, used, all_within, all_spread, all_fit, counts_feasible, is_feasible, position, laid_word, first_word, share_of, load, all_apart, kept_apart}
use Rattle.model.specs.Steps.{shifted, after_move, after_swap, after, improves, can_move, can_swap, routes, next_move, next_swap, next_step, run}
use Rattle.model.specs.Calls.{on_plan, unless, counts_call, first_call, all_counted, placement_refusal, on_placement, step_call, run_call}
use Rattle.theory.proofs.Refusal.{refusal-zero}
use Rattle.theory.proofs.Replication.{figure-at}
use Rattle.theorems.specs.Trials.{plan-H, plan-full, plan-Y, plan-Z, Trials}

-- The figure of a plan is the one that is reachable where the number before it is not: no search is computed.
pub figure-of : (bytes : List ℕ) (f : ℕ) → refusal bytes ≡ 0 → reachable (plan_in bytes) (suc f) ≡ true → reachable (plan_in bytes) f ≡ false
    → figure (plan_in bytes) ≡ suc f
figure-of bytes f passes = figure-at (plan_in bytes) (refusal-zero bytes passes) f

pub record Figures : Type 0 where
  pub H : figure (plan_in plan-H) ≡ 7560
  pub H4 : figure (plan_in (set plan-H 12 4)) ≡ 15120
  pub full2 : figure (plan_in (set plan-full 8 2)) ≡ 2520
  pub Y : figure (plan_in plan-Y) ≡ 10080
  pub Z : figure (plan_in plan-Z) ≡ 12600

pub figures : Figures
unfolding refusal check1 check2 check3 check4 check22 check5 check6 check7 plan_refusal blocks_refusal block_refusal check8 check9 pairs_refusal pair_refusal check17 alike check23 check10 check11 plan_in block_in format_of field upper max_replicas is_paired pairs_back pairs_next min_total reachable need share copy_limit sum table least allb first_up plan-H plan-full plan-Y plan-Z
figures =
    record {
      H = figure-of plan-H 7559 refl refl refl;
      H4 = figure-of (set plan-H 12 4) 15119 refl refl refl;
      full2 = figure-of (set plan-full 8 2) 2519 refl refl refl;
      Y = figure-of plan-Y 10079 refl refl refl;
      Z = figure-of plan-Z 12599 refl refl refl;
    }

pub trials : Trials
unfolding counts_call first_call step_call run_call on_plan unless on_placement placement_refusal all_counted judge refusal check1 check2 check3 check4 check22 check5 check6 check7 plan_refusal blocks_refusal block_refusal check8 check9 pairs_refusal pair_refusal check17 alike check23 check10 check11 plan_in block_in format_of field upper max_replicas is_paired pairs_back pairs_next min_total check12 chosen largest_share position laid_word first_word shifted after_move after_swap after improves can_move can_swap routes next_move next_swap next_step run bit replicas replicas_in domains_used used all_within all_spread all_fit all_apart kept_apart partner counts_feasible is_feasible share_of load filled largest need share copy_limit sum table least allb first_up plan-H plan-full plan-Y plan-Z
trials =
    record {
      H-accepted = refl;
      H-counts = rw figures.H refl;
      H-first = rw figures.H refl;
      H-budget4 = rw figures.H4 refl;
      H-budget3 = refl;
      full = refl;
      full-accepted = refl;
      full-C2 = rw figures.full2 refl;
      Y-first = rw figures.Y refl;
      Y-loads = refl;
      Y-step1 = rw figures.Y refl;
      Y-step2 = rw figures.Y refl;
      Y-rest = rw figures.Y refl;
      Y-rest-loads = refl;
      Y-limit0 = rw figures.Y refl;
      Y-limit1 = rw figures.Y refl;
      Y-limit1-loads = refl;
      Y-limit2 = rw figures.Y refl;
      Z-step1 = rw figures.Z refl;
      Z-step2 = rw figures.Z refl;
      Z-run = rw figures.Z refl;
      Z-loads = refl;
    }
