-- `transfers::find` meets its contract. The loop's invariant: the search has come to i, and there is no step at a block before it.
-- Assumes nothing.
use mathlib.Core.Path.{◌≡◌, sym, ◌∙◌}
use mathlib.Core.Bool.{Bool}
use mathlib.Core.List.{List}
use Prim.Native.Nat.{ℕ, ◌<◌}
use native.Mathlib.Omega.{arith}
use Rattle.model.specs.Placement.{held}
use Rattle.cluster.specs.declared.Cluster.{Cluster}
use Rattle.cluster.proofs.Laws.{cluster-blocks, placement-block}
use Rattle.transfers.specs.declared.Route.{Route}
use Rattle.transfers.specs.Route.{hit_of, RouteIn}
use Rattle.transfers.proofs.Laws.{passed-before, passed-next, passed-all, route_step-found, route_step-none, block_step-others}
use Rattle.transfers.proofs.Searches.{hit-is_step}
use Rattle.transfers.proofs.find.Invariants.{Fails}
use Rattle.transfers.proofs.find.Goals as goal

-- nor at one that is no candidate
others : {cluster : Cluster} {words profiles : List ℕ} {route : Route} {swapping : Bool} → RouteIn cluster route
    → (k : ℕ) → k < cluster.blocks → (held words route.m k ≡ 1 → held words route.n k ≡ 0 → ⊥)
    → Fails cluster words profiles route swapping k
others route-in k l other p count scene room across = block_step-others p count _ _ _ _ scene route-in k l _ across other

pub returns-then-is_some : goal.returns-then-is_some
returns-then-is_some c =
    let asked = c.requires in
    let next = c.in-Some.ensures in
    let hit = c.find_at-hit in
    record {
      sound = hit.ensures.sound;
      is = λ p count scene room across.
          route_step-found p _ _ _ _ _ c.in-Some.i (hit_of across hit.result)
          (placement-block p count _ _ _ scene.placement c.in-Some.i next.below)
          (λ k l. passed-before c.args.scene.now.indexed asked (others asked) c.loop-i.invariant next k l p count scene room across)
          (hit.ensures.is p count scene room across) (hit-is_step across _ ∙ sym c.is_some.ensures ∙ c.if-is_some.true);
    }

pub loop-i-preserved : goal.loop-i-preserved
loop-i-preserved c =
    let asked = c.requires in
    passed-next c.args.scene.now.indexed asked (others asked) c.loop-i.invariant c.in-Some.ensures
    (λ p count scene room across.
    rw (c.find_at-hit.ensures.is p count scene room across)
    at (hit-is_step across _ ∙ sym c.is_some.ensures ∙ c.if-is_some.false))

pub returns : goal.returns
unfolding hit_of
returns c =
    let asked = c.requires in
    record {
      sound = λ across. tt;
      is = λ p count scene room across.
          let blocks = cluster-blocks p _ scene.placement.profiles-of.cluster in
          route_step-none p _ _ _ _ _
          (λ k l. passed-all c.args.scene.now.indexed asked (others asked) c.loop-i.invariant c.in_default.ensures k (omega arith) p count scene room across);
    }
