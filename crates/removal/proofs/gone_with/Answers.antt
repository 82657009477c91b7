-- `removal::gone_with` meets its contract, by the three links.
-- Assumes nothing.
use mathlib.Core.Path.{sym, ◌∙◌}
use native.Mathlib.Omega.{arith}
use Rattle.removal.proofs.Laws.{gone-single, gone-second, gone-head}
use Rattle.removal.proofs.gone_with.Goals as goal

pub returns-in-1 : goal.returns-in-1
returns-in-1 c =
    record {
      below = λ blocks l linked. omega arith;
      of = λ p shaped l ends. gone-single p _ (sym ends ∙ sym c.link_of.ensures.0 ∙ c.in-1.is);
    }

pub returns-in-0 : goal.returns-in-0
returns-in-0 c =
    record {
      below = λ blocks l linked. omega (arith, c.requires, c.link_of.ensures.0);
      of = λ p shaped l ends. gone-second p _ (sym ends ∙ sym c.link_of.ensures.0 ∙ c.in-0.is);
    }

pub returns-in_default : goal.returns-in_default
returns-in_default c =
    let link = c.link_of.ensures.0 in
    record {
      below = λ blocks l linked. omega (arith, linked.below, link);
      of = λ p shaped l ends. gone-head p shaped _ l (λ e. omega (arith, link, ends)) (λ e. omega (arith, link, ends));
    }
