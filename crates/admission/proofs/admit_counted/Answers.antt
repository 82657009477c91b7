-- `admission::admit_counted` meets its contract: profiles and loads at the counts held, and the rows that are judged on them.
-- Assumes nothing.
use mathlib.Core.Path.{refl, sym}
use Rattle.std.proofs.lemmas.Result.{err_from_is_err_and}
use Rattle.admission.proofs.Laws.{prepared-of, held-at, within-all}
use Rattle.admission.proofs.admit_counted.Goals as goal

pub invariant_of-held : goal.invariant_of-held
invariant_of-held c =
    let asked = c.requires in
    record {
      fits = record { profiles-fit = (c.fill_held-largest.ensures asked.plan asked.demands-of).fit; word_room = asked.fit.word_room };
    }

pub returns-in_err-check_layout : goal.returns-in_err-check_layout
returns-in_err-check_layout c p of =
    let q = err_from_is_err_and c.from_residual.result c.from_residual.ensures.1 in
    rw (q.1, q.2)
    (c.in_err-check_layout.ensures p _ (held-at p _ _ _ of c.requires.fit _ _ (c.fill_held-largest.ensures p of)) (within-all p _ _ _ of c.requires.fit))

pub returns : goal.returns
returns c p of =
    let prepared = prepared-of p _ _ of.cluster _ _ _ (c.fill_held-largest.ensures p of) in
    record {
      passes =
          sym (c.in_ok-check_layout.ensures p _ (held-at p _ _ _ of c.requires.fit _ _ (c.fill_held-largest.ensures p of)) (within-all p _ _ _ of c.requires.fit));
      cluster-is = refl;
      prepared = prepared;
      loads-of = c.sum_words-loads.ensures;
    }
