-- `transfers::keeps` meets its contract: inside a domain and at a spread of one nothing can be lost, otherwise the domains are counted.
-- Assumes nothing.
use mathlib.Core.Path.{refl, ap, sym, ◌∙◌}
use borrow.Author.Tests.{not-true}
use Rattle.order.proofs.Booleans.{leb-iff}
use Rattle.model.specs.Placement.{domains_used}
use Rattle.transfers.proofs.Laws.{kept-inside, kept-one}
use Rattle.transfers.proofs.keeps.Goals as goal

pub returns-then-not-route : goal.returns-then-not-route
returns-then-not-route c =
    λ p lies. (λ e. kept-inside p _ _ _ c.args.profile lies c.requires (not-true _ c.if-not-route.true), λ h. refl)

pub returns-then-spread-le1 : goal.returns-then-spread-le1
returns-then-spread-le1 c =
    λ p lies. (λ e. kept-one p _ _ _ c.args.profile lies c.requires (rw c.spread_of-spread.ensures at c.if-spread-le1.true), λ h. refl)

pub returns : goal.returns
returns c =
    λ p lies.
    let moved = c.shift_bit-moved in
    let e = c.domains_used.ensures p lies.cluster-of ∙ ap (domains_used p) moved.ensures in
    rw (sym e, sym c.spread_of-spread.ensures) (leb-iff _ c.domains_used.result)
