-- `transfers::find` meets its contract. The loop's invariant: the search has come to i, and there is no step at a block before it.
-- Assumes nothing.
use mathlib.Core.Path.{◌≡◌}
use mathlib.Core.Bool.{Bool, false}
use mathlib.Core.List.{List}
use Prim.Native.Nat.{ℕ, ◌-◌}
use Rattle.model.specs.Plan.{Plan}
use Rattle.model.specs.Steps.{is_step}
use Rattle.cluster.specs.declared.Cluster.{Cluster}
use Rattle.transfers.specs.declared.Route.{Route}
use Rattle.transfers.specs.Route.{block_step, RouteScene, HasRoom}
use Rattle.transfers.proofs.Laws.{Passed}
use Rattle.transfers.proofs.find.Given as goal

-- there is no step at block k
abbrev pub Fails : Cluster → List ℕ → List ℕ → Route → Bool → ℕ → Type 0
Fails cluster words profiles route swapping k =
    (p : Plan) (count : ℕ → ℕ) → RouteScene p count cluster words profiles route → HasRoom p words swapping route.n
    → (across : Bool) → is_step (block_step p words swapping across route.m route.n k) ≡ false

abbrev pub invariant-loop-i : goal.invariant-loop-i
invariant-loop-i l =
    let held = l.scene.held in
    Passed held.cluster (Fails held.cluster held.words.now held.profiles.now l.route l.swapping) l.next_i

abbrev pub decreases-loop-i : goal.decreases-loop-i
decreases-loop-i l = l.scene.held.cluster.blocks - l.next_i
