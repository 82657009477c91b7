-- `listing::run_first` meets its contract: the run starts from the first placement, and the report is on the words after it.
-- Assumes nothing.
use borrow.Author.Rules.{rules}
use mathlib.Core.Path.{ap, sym, ◌∙◌}
use native.Mathlib.Nat.{le_of_eq}
use Rattle.model.specs.Steps.{run}
use Rattle.theory.proofs.Placement.{max_share-feasible}
use Rattle.loads.proofs.Laws.{loads-narrow}
use Rattle.loads.proofs.PlanLoads.{report-max, report-min, report-total}
use Rattle.listing.proofs.Laws.{first-placement, run-placement}
use Rattle.listing.proofs.run_first.Goals as goal

pub lay_all-requires : goal.lay_all-requires
lay_all-requires c =
    let prepared = c.prepare-top.ensures in
    record {
      fits = record { profiles-fit = prepared.fit; word_room = le_of_eq (sym c.requires.1) };
      plan = _;
      profiles-of = prepared.profiles-of;
    }

pub invariant_of-laid : goal.invariant_of-laid
invariant_of-laid c =
    record {
      fits =
          record {
            profiles-fit = c.prepare-top.ensures.fit;
            word_room = le_of_eq (sym (c.lay_all.auto.words ∙ c.requires.1));
          };
    }

pub invariant_of-moved : goal.invariant_of-moved
invariant_of-moved c =
    record {
      fits =
          record {
            profiles-fit = c.prepare-top.ensures.fit;
            word_room = le_of_eq (sym (c.run-ran.auto.words ∙ c.lay_all.auto.words ∙ c.requires.1));
          };
    }

pub run-ran-requires : goal.run-ran-requires
run-ran-requires c = record { fits = search rules; loads-of = c.sum_words-first.ensures }

pub report-report-requires : goal.report-report-requires
report-report-requires c =
    let fit = c.prepare-top.ensures.fit in
    record { machines-max = fit.in-range.machines-max; load-narrow = loads-narrow _ _ _ _ _ c.sum_words-last.ensures fit }

pub returns : goal.returns
returns c =
    let prepared = c.prepare-top.ensures in
    let first = first-placement _ _ _ prepared.profiles-of _ _ c.requires.1 (c.lay_all.ensures _ prepared.profiles-of) in
    let ran = c.run-ran.ensures _ _ first.0 ∙ ap (run _ c.args.limit) first.1 in
    let placement = run-placement _ _ _ _ prepared.profiles-of _ _ ran in
    let loads = c.sum_words-last.ensures in
    record {
      fits = record { profiles-fit = prepared.fit; word_room = le_of_eq (sym (c.run-ran.auto.words ∙ c.lay_all.auto.words ∙ c.requires.1)) };
      profiles-of = prepared.profiles-of;
      run_is = ran;
      max-is = report-max _ _ _ _ _ _ _ placement loads c.report-report.ensures;
      min-is = report-min _ _ _ _ _ _ _ placement loads c.report-report.ensures;
      total-is = report-total _ _ _ _ _ _ _ placement loads c.report-report.ensures;
      top-is = prepared.top-is ∙ max_share-feasible _ _ _ placement.feasible;
    }
