-- `validation::all_counted` meets its contract: a block passes whose copies are a need, and so copies that its demand allows.
-- Assumes nothing.
use mathlib.Core.Path.{refl, sym, ◌∙◌}
use mathlib.Core.Bool.{Bool, true, false}
use mathlib.Core.List.{List}
use mathlib.Core.Logic.{◌≢◌}
use Prim.Native.Nat.{ℕ}
use lib.ListN.{get_or}
use borrow.Author.Tests.{eq-eqb, ne_eqb}
use Rattle.std.proofs.Common.{rules, tests, arith}
use Rattle.std.proofs.lemmas.Iterator.{YieldsList-from_range, cases_from_all}
use Rattle.order.proofs.Booleans.{no-contradiction}
use Rattle.order.proofs.Extremes.{allb-intro, allb-false}
use Rattle.model.specs.Placement.{word_of}
use Rattle.cluster.specs.declared.Cluster.{Cluster}
use Rattle.cluster.specs.Blocks.{copies_in}
use Rattle.needs.specs.Needs.{NeedOf}
use Rattle.validation.specs.Validation.{CountedAs}
use Rattle.validation.proofs.Laws.{TestedBelow, tested_each, tested_one, counted-at, counted-row}
use Rattle.validation.proofs.all_counted.Goals as goal

module _ (c : Cluster) (words demands : List ℕ) (figure : ℕ) where
  -- a block has the copies that it needs, or others
  abbrev Needed : ℕ → Type 0
  Needed i = NeedOf (get_or demands i 0) figure (copies_in (word_of words i))

  abbrev Other : ℕ → Type 0
  Other i = (k : ℕ) × NeedOf (get_or demands i 0) figure k × (copies_in (word_of words i) ≢ k)

  counted : (r : Bool) → TestedBelow c.blocks r Needed Other → CountedAs c words demands figure r
  counted true all =
      let each = tested_each c.blocks Needed Other all in
      record {
        is = λ p of within.
            sym (allb-intro c.blocks _ (λ i l. counted-at p words c demands figure of within i _ l (each i l) ∙ eq-eqb _ _ refl))
            ∙ counted-row p words c figure of.cluster;
        at_least = λ e i l. (each i l).low;
        at_most = λ e i l. (each i l).high;
      }
  counted false some =
      let one = tested_one c.blocks Needed Other some in
      let other = one.2 in
      record {
        is = λ p of within.
            sym (allb-false c.blocks _ one.0 one.1 (counted-at p words c demands figure of within one.0 other.0 one.1 other.1 ∙ ne_eqb _ _ other.2))
            ∙ counted-row p words c figure of.cluster;
        at_least = λ e. no-contradiction (sym e);
        at_most = λ e. no-contradiction (sym e);
      }

pub returns : goal.returns
returns c =
    let a = c.args in
    let words = a.words.now in
    let demands = a.demands.now in
    let n = a.cluster.blocks in
    counted a.cluster words demands a.figure c.all.result
    (cases_from_all _ _ _ (Needed a.cluster words demands a.figure) (Other a.cluster words demands a.figure) c.all.ensures.ran
    (YieldsList-from_range 0 n n refl (omega arith)) (λ x q k. search (rules, tests)) (λ x q k. search (rules, tests)))
