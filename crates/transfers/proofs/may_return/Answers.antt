-- `transfers::may_return` meets its contract: of the blocks whose shares are near enough to `given`, the first by rank has the smallest.
-- Assumes nothing.
use mathlib.Core.Path.{◌≡◌}
use Prim.Native.Nat.{ℕ, ◌-◌, ◌<◌, ◌≤◌}
use native.Mathlib.Decide.{dec_lt}
use native.Mathlib.Omega.{arith}
use borrow.Author.Tests.{ltb-false}
use Rattle.cluster.specs.declared.Cluster.{Cluster}
use Rattle.transfers.specs.declared.Route.{Route}
use Rattle.index.specs.declared.Index.{Index}
use Rattle.index.specs.Index.{spot, share_at, NoneFree, AboveOf}
use Rattle.transfers.specs.Route.{InMargin}
use Rattle.transfers.proofs.may_return.Goals as goal

-- no block that may come back stands before the one that is found
not-before : {c : Cluster} {index : Index} (route : Route) (given : ℕ) {from rank : ℕ} → route.margin ≤ given
    → AboveOf index (given - route.margin) c from → NoneFree index.by_rank route.m route.n from rank
    → (r : ℕ) → r < c.blocks → spot index.by_rank route.m r ≡ 1 → spot index.by_rank route.n r ≡ 0
    → InMargin route.margin given (share_at index r) → rank ≤ r
not-before route given {from} {rank} few above next r l on off margin = elim (dec_lt r rank) [
  | yes h ↦
      elim (dec_lt r from) [
        | yes low ↦ absurd (omega (arith, above.passed r low, margin.below))
        | no high ↦ absurd (next r (omega arith) h on off)
      ]
  | no h ↦ omega arith
]

pub returns-in_default : goal.returns-in_default
returns-in_default c =
    let few = c.if-given-route.false in
    let a = c.args in
    λ e r l on off margin. absurd (omega (arith, not-before a.route a.given few c.first_above-from.ensures c.in_default.ensures r l on off margin))

pub returns : goal.returns
returns c =
    let few = c.if-given-route.false in
    let a = c.args in
    λ e r l on off margin.
    let after = not-before a.route a.given few c.first_above-from.ensures c.in-Some.ensures.passed r l on off margin in
    omega (arith, ltb-false c.key_share.result a.given e, c.key_share.ensures, a.scene.now.indexed.ordered.rising _ r after l, margin.gain)
