-- `transfers::first_exchange` meets its contract: a block of share 0, or whose spread would be lost, is exchanged for none, and one
-- whose partner is on n only for that.
-- Assumes nothing.
use mathlib.Core.Path.{◌≡◌, sym, ◌∙◌}
use mathlib.Core.Bool.{Bool, false}
use mathlib.Core.List.{List}
use mathlib.Core.Logic.{inl, inr}
use Prim.Native.Nat.{ℕ, ◌<◌, ◌≤◌}
use Rattle.std.proofs.Common.{Option, Some, None}
use native.Mathlib.Omega.{arith}
use lib.ListN.{get_or}
use Rattle.order.proofs.Booleans.{no-contradiction, not_so}
use Rattle.model.specs.Plan.{Plan}
use Rattle.model.specs.Placement.{word_of, held, domains_used}
use Rattle.model.specs.Steps.{shifted}
use Rattle.theory.proofs.Placement.{bit-cases}
use Rattle.cluster.specs.declared.Cluster.{Cluster}
use Rattle.cluster.specs.Blocks.{linked_to, share_in, spread_in, PlacementOf}
use Rattle.transfers.specs.declared.Route.{Route}
use Rattle.transfers.specs.Route.{Free, FreeOf, RouteScene, CandidateAsked, NoneReturns, ReturnFound, OwnFound, NoneExchanged, ExchangeFound}
use Rattle.transfers.proofs.Laws.{reversed, reversed-in, lies_at, linked-back, Exchange, exchange-free, exchange-own, swap-exchange}
use Rattle.transfers.proofs.first_exchange.Goals as goal

module _ {c : Cluster} {words profiles : List ℕ} {route : Route} {i : ℕ} (asked : CandidateAsked c words route i) where
  -- where every exchange of i is ruled out, there is none
  no-exchange : {to : ℕ} → to ≤ c.blocks
      → ((k : ℕ) → k < to → (p : Plan) (count : ℕ → ℕ) → RouteScene p count c words profiles route → Exchange p words profiles route i k → ⊥)
      → NoneExchanged c words profiles route i to
  no-exchange within none k l p count scene =
      not_so _ (λ t. none k l p count scene ((swap-exchange p count _ _ _ _ scene asked.route-in i asked.i-below k (omega arith)).0 t))

  -- the blocks that may come back, where i's own spread is kept
  module _ (kept : (p : Plan) (count : ℕ → ℕ) → PlacementOf p count c words profiles
      → spread_in (get_or profiles i 0) ≤ domains_used p (shifted (word_of words i) route.m route.n)) where
    -- where i is free to go, the first that is free to come
    returns_free : Free words profiles i route.n → (r : Option ℕ)
        → ReturnFound c words profiles (reversed route) (share_in (get_or profiles i 0)) r → ExchangeFound c words profiles route i r
    returns_free free r back = go r back
      where
        none-before : (to : ℕ) → to ≤ c.blocks → NoneReturns c words profiles (reversed route) (share_in (get_or profiles i 0)) to
            → NoneExchanged c words profiles route i to
        none-before to within none = no-exchange within (λ k l p count scene x.
            none k l p count scene.placement
            (exchange-free p count _ _ _ scene.placement route i k x asked.i-below (omega arith) free))

        go : (r : Option ℕ) → ReturnFound c words profiles (reversed route) (share_in (get_or profiles i 0)) r
            → ExchangeFound c words profiles route i r
        go None none = none-before c.blocks (omega arith) none
        go (Some r) back =
            record {
              below = back.below;
              holds = back.holds;
              lacks = back.lacks;
              passed = none-before r (omega (arith, back.below)) back.passed;
              found = λ p count scene.
                  let returns = back.found p count scene.placement in
                  (swap-exchange p count _ _ _ _ scene asked.route-in i asked.i-below r back.below).1
                  (record {
                    holds = asked.holds;
                    lacks = asked.lacks;
                    kept = kept p count scene.placement;
                    back = returns.back;
                    i-free = λ other. free;
                    j-free = λ other. returns.free;
                  });
            }

    -- where it is not, its partner, which is on n
    returns_own : held words route.n (linked_to (get_or profiles i 0) i) ≡ 1 → (Free words profiles i route.n → ⊥) → (r : Option ℕ)
        → OwnFound c words profiles (reversed route) (share_in (get_or profiles i 0)) i r → ExchangeFound c words profiles route i r
    returns_own held-there taken None none =
        no-exchange (omega arith) (λ k l p count scene x.
        let e = exchange-own p count _ _ _ scene.placement route i k x taken in
        none p count scene.placement (rw (sym e) at x.back))
    returns_own held-there taken (Some r) own =
        record {
          below = own.below;
          holds = rw own.is held-there;
          lacks = own.lacks;
          passed = no-exchange (omega (arith, own.below)) (λ k l p count scene x.
              omega (arith, own.is, exchange-own p count _ _ _ scene.placement route i k x taken));
          found = λ p count scene.
              (swap-exchange p count _ _ _ _ scene asked.route-in i asked.i-below r own.below).1
              (record {
                holds = asked.holds;
                lacks = asked.lacks;
                kept = kept p count scene.placement;
                back = own.found p count scene.placement;
                i-free = λ other. absurd (other (sym own.is));
                j-free = λ other. absurd (other (linked-back p count _ _ _ scene.placement i r asked.i-below own.below (sym own.is)));
              });
        }

-- where the test fails, the block that i is linked to is on n
module _ (words profiles : List ℕ) (i n : ℕ) {r : Bool} (told : FreeOf words profiles i n r) (e : r ≡ false) where
  not_free : Free words profiles i n → ⊥
  not_free free = no-contradiction (sym (told.1 free) ∙ e)

  linked-held : held words n (linked_to (get_or profiles i 0) i) ≡ 1
  linked-held = elim (bit-cases (word_of words (linked_to (get_or profiles i 0) i)) n) [ inl z ↦ absurd (not_free z) | inr o ↦ o ]

pub returns-then-given-eq0 : goal.returns-then-given-eq0
returns-then-given-eq0 c =
    no-exchange c.requires (omega arith)
    (λ k l p count scene x. omega (arith, x.back.test.in-margin.gain, c.if-given-eq0.true))

pub returns-then-not-keeps : goal.returns-then-not-keeps
returns-then-not-keeps c =
    no-exchange c.requires (omega arith)
    (λ k l p count scene x.
    let kept = (c.keeps.ensures p (lies_at p count _ _ _ scene.placement c.args.i c.requires.i-below)).1 x.kept in
    no-contradiction (sym kept ∙ c.if-not-keeps.true))

pub first_return-requires : goal.first_return-requires
first_return-requires c =
    reversed-in c.requires.route-in

pub returns-then-is_free : goal.returns-then-is_free
returns-then-is_free c =
    let asked = c.requires in
    returns_free asked
    (λ p count of. (c.keeps.ensures p (lies_at p count _ _ _ of _ asked.i-below)).0 c.if-not-keeps.false)
    (c.is_free.ensures.0 c.if-is_free.true) _
    (rw c.share-given.ensures at c.first_return.ensures)

pub own_return-requires : goal.own_return-requires
own_return-requires c =
    let args = c.args in
    let asked = c.requires in
    record {
      route-in = reversed-in asked.route-in;
      i-below = asked.i-below;
      holds = linked-held args.scene.now.held.words.now args.scene.now.held.profiles.now args.i args.route.n c.is_free.ensures c.if-is_free.false;
    }

pub returns : goal.returns
returns c =
    let args = c.args in
    let asked = c.requires in
    let told = c.is_free.ensures in
    let taken = c.if-is_free.false in
    returns_own asked
    (λ p count of. (c.keeps.ensures p (lies_at p count _ _ _ of _ asked.i-below)).0 c.if-not-keeps.false)
    (linked-held args.scene.now.held.words.now args.scene.now.held.profiles.now args.i args.route.n told taken)
    (not_free args.scene.now.held.words.now args.scene.now.held.profiles.now args.i args.route.n told taken) _
    (rw c.share-given.ensures at c.own_return.ensures)
