-- `admission::admit_placement` meets its contract: the plan and row 12, then 13 and 14 at the needs within the figure, which are the chosen
-- counts, then the others at the counts held.
-- Assumes nothing.
use mathlib.Core.Path.{refl, sym, ◌∙◌}
use Rattle.std.proofs.lemmas.Result.{err_from_is_err_and}
use Rattle.model.specs.Calls.{placement_refusal}
use Rattle.theory.proofs.Calls.{call_refusal-short, call_refusal-accepted}
use Rattle.theory.proofs.Replication.{reachable-upper}
use Rattle.refusal.proofs.Laws.{number_of-pos}
use Rattle.cluster.proofs.Laws.{cluster-blocks}
use Rattle.replication.proofs.Laws.{most-within}
use Rattle.admission.proofs.Laws.{rows-counts, rows-layout, admitted-of}
use Rattle.admission.proofs.admit_placement.Goals as goal

pub returns-in_err-plan : goal.returns-in_err-plan
unfolding placement_refusal
returns-in_err-plan c =
    let p = err_from_is_err_and c.from_residual.result c.from_residual.ensures.1 in
    rw (p.1, p.2) (sym (call_refusal-short _ _ _ _ (sym c.in_err-plan.ensures) (number_of-pos _)))

pub best_figure-figure-requires : goal.best_figure-figure-requires
best_figure-figure-requires c =
    let made = c.demand_all-allowed.ensures in
    record { fit = made.fit; plan = _; limited = made.limited }

pub check_counts-requires : goal.check_counts-requires
check_counts-requires c =
    let demands = c.demand_all-allowed.ensures in
    let of = demands.limited.demands-of in
    let figure-of = c.best_figure-figure.ensures.0 _ demands.limited in
    record {
      figure-asked =
          record {
            fit = demands.fit;
            wanted-narrow = c.best_figure-figure.ensures.1;
            most-within = most-within _ _ _ of _ (reachable-upper _ of.cluster.valid _ figure-of.reached);
          };
      word_room = rw (← cluster-blocks _ _ of.cluster) at c.in_ok-plan.ensures.enough;
    }

pub returns-in_err-check_counts : goal.returns-in_err-check_counts
returns-in_err-check_counts c =
    let entered = c.in_ok-plan.ensures in
    let limited = c.demand_all-allowed.ensures.limited in
    let figure-of = c.best_figure-figure.ensures.0 _ limited in
    let code = c.in_err-check_counts.ensures.code_is _ limited.demands-of in
    let p = err_from_is_err_and c.from_residual-in_err-check_counts.result c.from_residual-in_err-check_counts.ensures.1 in
    rw (p.1, p.2) (sym (call_refusal-accepted _ _ _ entered.reads ∙ rows-counts _ _ _ figure-of entered.enough _ code (number_of-pos _)))

pub admit_counted-requires : goal.admit_counted-requires
admit_counted-requires c =
    let of = c.demand_all-allowed.ensures.limited.demands-of in
    record { fit = c.in_ok-check_counts.ensures.fit refl _ of; plan = _; demands-of = of }

pub returns : goal.returns
returns c =
    let entered = c.in_ok-plan.ensures in
    let limited = c.demand_all-allowed.ensures.limited in
    let of = limited.demands-of in
    let figure-of = c.best_figure-figure.ensures.0 _ limited in
    let rows = rows-layout _ _ _ figure-of entered.enough (sym (c.in_ok-check_counts.ensures.code_is _ of)) in
    admitted-of _ _ entered.reads _ rows _ _ _ entered.enough (c.admit_counted.ensures _ of)
