-- `transfers::first_return` meets its contract: where the shares rule out every block, there is none. The loop's invariant: the search has come to j, and no block before it can come back.
-- Assumes nothing.
use mathlib.Core.Path.{◌≡◌, sym, ◌∙◌}
use mathlib.Core.List.{List}
use Prim.Native.Nat.{ℕ, ◌<◌}
use Rattle.order.proofs.Booleans.{no-contradiction}
use Rattle.model.specs.Placement.{held}
use Rattle.cluster.specs.declared.Cluster.{Cluster}
use Rattle.transfers.specs.declared.Route.{Route}
use Rattle.transfers.proofs.Laws.{next-candidate, passed-before, passed-next, passed-all, no_return-block}
use Rattle.transfers.proofs.first_return.Invariants.{Fails}
use Rattle.transfers.proofs.first_return.Goals as goal

-- nor does a block that is no candidate
others : {cluster : Cluster} {words profiles : List ℕ} {route : Route} {given : ℕ} (k : ℕ) → k < cluster.blocks
    → (held words route.m k ≡ 1 → held words route.n k ≡ 0 → ⊥) → Fails cluster words profiles route given k
others k l other p count of t = other t.back.holds t.back.lacks

pub returns-then-not-may_return : goal.returns-then-not-may_return
returns-then-not-may_return c =
    let none = c.may_return.ensures c.if-not-may_return.true in
    λ k l p count of t. no_return-block p c.args.scene.now.indexed c.requires none k l t.back

pub returns-then-can_return : goal.returns-then-can_return
returns-then-can_return c =
    let candidate = next-candidate c.args.scene.now.indexed c.requires c.in-Some.ensures in
    record {
      below = candidate.i-below;
      holds = candidate.holds;
      lacks = candidate.lacks;
      passed = passed-before c.args.scene.now.indexed c.requires others c.loop-j.invariant c.in-Some.ensures;
      found = λ p count of. (c.can_return.ensures p count of).0 c.if-can_return.true;
    }

pub loop-j-preserved : goal.loop-j-preserved
loop-j-preserved c =
    passed-next c.args.scene.now.indexed c.requires others c.loop-j.invariant c.in-Some.ensures
    (λ p count of t. no-contradiction (sym ((c.can_return.ensures p count of).1 t) ∙ c.if-can_return.false))

pub returns : goal.returns
returns c = passed-all c.args.scene.now.indexed c.requires others c.loop-j.invariant c.in_default.ensures
