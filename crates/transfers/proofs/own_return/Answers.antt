-- `transfers::own_return` meets its contract: the partner is on m, and the two tests are those of its return.
-- Assumes nothing.
use mathlib.Core.Path.{◌≡◌, refl, ap, sym, ◌∙◌}
use mathlib.Core.Bool.{Bool, true, false}
use mathlib.Core.List.{List}
use mathlib.Core.Logic.{inl, inr, ◌↔◌}
use Prim.Native.Nat.{ℕ}
use native.Mathlib.Omega.{arith}
use lib.ListN.{get_or}
use Rattle.std.specs.Bool.{then_some}
use Rattle.order.proofs.Booleans.{no-contradiction}
use Rattle.model.specs.Plan.{Plan}
use Rattle.model.specs.Placement.{word_of, held}
use Rattle.theory.proofs.Placement.{bit-cases}
use Rattle.cluster.specs.declared.Cluster.{Cluster}
use Rattle.cluster.specs.Blocks.{linked_to, share_in, spread_in, PlacementFits, PlacementOf}
use Rattle.transfers.specs.declared.Route.{Route}
use Rattle.transfers.specs.Route.{Passable, CandidateAsked, OwnAsked, OwnFound}
use Rattle.transfers.proofs.Laws.{linked-below, candidate-block, lies_at}
use Rattle.transfers.proofs.own_return.Goals as goal

-- the partner k, whose bit n is not 1
own-asked : {c : Cluster} {words profiles : List ℕ} {route : Route} {i b : ℕ} → PlacementFits c words profiles → OwnAsked c words profiles route i
    → (k : ℕ) → k ≡ linked_to (get_or profiles i 0) i → b ≡ held words route.n k → (b ≡ 1 → ⊥) → CandidateAsked c words route k
own-asked {words} {route} {i} fits asked k e bit clear =
    record {
      route-in = asked.route-in;
      i-below = rw e (linked-below fits i asked.i-below);
      holds = rw e asked.holds;
      lacks = elim (bit-cases (word_of words k) route.n) [ inl z ↦ z | inr o ↦ absurd (clear (bit ∙ o)) ];
    }

-- it is the answer where its test says so
own-told : {c : Cluster} {words profiles : List ℕ} {route : Route} {given k : ℕ} (i : ℕ) → CandidateAsked c words route k
    → k ≡ linked_to (get_or profiles i 0) i → (passes : Bool)
    → ((p : Plan) (count : ℕ → ℕ) → PlacementOf p count c words profiles
    → (passes ≡ true) ↔ Passable p route (word_of words k) (spread_in (get_or profiles k 0)) given (share_in (get_or profiles k 0)))
    → OwnFound c words profiles route given i (then_some passes k)
own-told i own e true told =
    record {
      below = own.i-below;
      is = e;
      lacks = own.lacks;
      found = λ p count of. record { holds = own.holds; lacks = own.lacks; test = (told p count of).0 refl };
    }
own-told i own e false told = λ p count of t. no-contradiction (sym ((told p count of).1 (rw (sym e) at t.test)))

pub returns-then-bit_at-eq1 : goal.returns-then-bit_at-eq1
returns-then-bit_at-eq1 c =
    let words = c.args.held.now.words.now in
    let route = c.args.route in
    let k = c.linked-k.ensures in
    let e = c.bit_at.ensures ∙ ap (λ (k : ℕ). held words route.n k) k in
    λ p count of t. omega (arith, e, c.if-bit_at-eq1.true, t.lacks)

pub returnable-requires : goal.returnable-requires
returnable-requires c =
    candidate-block c.args.held.now.fits (own-asked c.args.held.now.fits c.requires _ c.linked-k.ensures c.bit_at.ensures c.if-bit_at-eq1.false)

pub returns : goal.returns
returns c =
    let k = c.linked-k.ensures in
    let own = own-asked c.args.held.now.fits c.requires _ k c.bit_at.ensures c.if-bit_at-eq1.false in
    rw c.then_some.ensures (own-told _ own k _ (λ p count of. c.returnable.ensures p (lies_at p count _ _ _ of _ own.i-below)))
