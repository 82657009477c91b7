-- The small examples of reads, by computing the model's calls.
-- Assumes nothing.
use mathlib.Core.Path.{refl}
use Rattle.order.specs.Sum.{sum}
use Rattle.order.specs.Table.{table}
use Rattle.order.specs.Search.{first_up}
use Rattle.order.specs.Select.{select}
use Rattle.model.specs.Plan.{max_replicas, upper, min_total, field, format_of, block_in, plan_in, is_paired, pairs_back, pairs_next, partner}
use Rattle.model.specs.Refusal.{check1, check2, check3, check4, check22, check5, check6, check7, check8, check9, block_refusal, blocks_refusal, check23, check10, check11, plan_refusal, refusal, judge, pairs_refusal, pair_refusal, check17, alike}
use Rattle.model.specs.Calls.{on_plan, unless}
use Rattle.model.specs.ReadLog.{age, in_window, last_tick, check19, check20, check21, read_refusal, noted, relisted, read_call, reads_of, popularity_of, popularity_call}
use Rattle.theorems.specs.Trials.{plan-H}
use Rattle.theorems.specs.RowExamples.{plan-pair}
use Rattle.theorems.specs.ReadExamples.{ReadExamples}

pub read-examples : ReadExamples
unfolding judge refusal check1 check2 check3 check4 check22 check5 check6 check7 plan_refusal blocks_refusal block_refusal check8 check9 pairs_refusal pair_refusal check17 alike check23 check10 check11 plan_in block_in format_of field upper max_replicas is_paired pairs_back pairs_next partner min_total on_plan unless age in_window last_tick check19 check20 check21 read_refusal noted relisted read_call reads_of popularity_of popularity_call select sum table first_up plan-H plan-pair
read-examples =
    record {
      first = refl;
      stands = refl;
      dropped = refl;
      over = refl;
      moved = refl;
      row19 = refl;
      row20 = refl;
      before-row20 = refl;
      row21 = refl;
      after-dropping = refl;
      no-records = refl;
      count-above = refl;
      plan-first = refl;
      nineteen-first = refl;
      counted = refl;
      in_count = refl;
      of_pair = refl;
      of-second = refl;
      unpaired = refl;
      popularity-row19 = refl;
    }
