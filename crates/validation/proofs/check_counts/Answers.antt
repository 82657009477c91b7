-- `validation::check_counts` meets its contract: row 13, then row 14 on words that name only machines below M.
-- Assumes nothing.
use mathlib.Core.Path.{sym, ◌∙◌}
use native.Mathlib.Omega.{arith}
use Rattle.theory.proofs.Placement.{all_within-iff}
use Rattle.cluster.proofs.Laws.{cluster-blocks, cluster-machines}
use Rattle.validation.specs.Validation.{counts_refusal}
use Rattle.validation.proofs.check_counts.Goals as goal

pub all_within-requires : goal.all_within-requires
all_within-requires c = let asked = c.requires in record { in-range = asked.figure-asked.fit.in-range; word_room = asked.word_room }

pub returns-then-not-all_within : goal.returns-then-not-all_within
unfolding counts_refusal
returns-then-not-all_within c =
    record {
      code_is = λ p of. sym (rw (sym (c.all_within.ensures p of.cluster) ∙ c.if-not-all_within.true));
      fit = λ e. absurd (omega arith);
    }

pub all_counted-requires : goal.all_counted-requires
all_counted-requires c = c.requires

pub returns-then-not-all_counted : goal.returns-then-not-all_counted
unfolding counts_refusal
returns-then-not-all_counted c =
    record {
      code_is = λ p of.
          let passed = sym (c.all_within.ensures p of.cluster) ∙ c.if-not-all_within.false in
          sym (rw (passed, sym (c.all_counted.ensures.is p of passed) ∙ c.if-not-all_counted.true));
      fit = λ e. absurd (omega arith);
    }

pub returns : goal.returns
unfolding counts_refusal
returns c =
    let counted = c.all_counted.ensures in
    let yes = c.if-not-all_counted.false in
    let asked = c.requires in
    record {
      code_is = λ p of.
          let passed = sym (c.all_within.ensures p of.cluster) ∙ c.if-not-all_within.false in
          sym (rw (passed, sym (counted.is p of passed) ∙ yes));
      fit = λ e p of.
          record {
            demands-fit = asked.figure-asked.fit;
            word_room = asked.word_room;
            within = λ i l.
                rw (cluster-machines p _ of.cluster)
                ((all_within-iff p _).0 (sym (c.all_within.ensures p of.cluster) ∙ c.if-not-all_within.false) i (rw (cluster-blocks p _ of.cluster) at l));
            at_least = counted.at_least yes;
            at_most = counted.at_most yes;
          };
    }
