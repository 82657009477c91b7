-- `transfers::first_return` meets its contract: where the shares rule out every block, there is none. The loop's invariant: the search has come to j, and no block before it can come back.
-- Assumes nothing.
use mathlib.Core.List.{List}
use Prim.Native.Nat.{ℕ, ◌-◌}
use Rattle.model.specs.Plan.{Plan}
use Rattle.cluster.specs.declared.Cluster.{Cluster}
use Rattle.cluster.specs.Blocks.{PlacementOf}
use Rattle.transfers.specs.declared.Route.{Route}
use Rattle.transfers.specs.Route.{FreeReturn}
use Rattle.transfers.proofs.Laws.{Passed}
use Rattle.transfers.proofs.first_return.Given as goal

-- block k does not come back
abbrev pub Fails : Cluster → List ℕ → List ℕ → Route → ℕ → ℕ → Type 0
Fails cluster words profiles route given k =
    (p : Plan) (count : ℕ → ℕ) → PlacementOf p count cluster words profiles → FreeReturn p words profiles route given k → ⊥

abbrev pub invariant-loop-j : goal.invariant-loop-j
invariant-loop-j l =
    let held = l.scene.held in
    Passed held.cluster (Fails held.cluster held.words.now held.profiles.now l.route l.given) l.next_j

abbrev pub decreases-loop-j : goal.decreases-loop-j
decreases-loop-j l = l.scene.held.cluster.blocks - l.next_j
