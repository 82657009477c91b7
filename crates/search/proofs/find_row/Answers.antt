-- `search::find_row` meets its contract. The loop's invariant: the definition finds nothing at the machines passed.
-- Assumes nothing.
use mathlib.Core.Path.{sym, ◌∙◌}
use Prim.Native.Nat.{ℕ, ◌<◌}
use native.Mathlib.Omega.{arith}
use Rattle.cluster.specs.declared.Cluster.{Cluster}
use Rattle.cluster.specs.Cluster.{machines_in}
use Rattle.transfers.specs.Route.{hit_of}
use Rattle.transfers.proofs.Searches.{hit-is_step}
use Rattle.search.specs.declared.Row.{Row}
use Rattle.search.specs.Scene.{row_of, EndsAt}
use Rattle.search.proofs.Routes.{kind_at-other}
use Rattle.search.proofs.Loops.{passed-more, passed-found, passed-rest}
use Rattle.search.proofs.find_row.Goals as goal

-- the machine in the loop is one of the cluster
below : (c : Cluster) (row : Row) (n end : ℕ) → n < end → EndsAt c row end → n < machines_in c
below c row n end l ends = omega (arith, ends.within)

-- before the row's first machine none is of its kind
pub loop-n-init : goal.loop-n-init
loop-n-init c =
    let a = c.args in
    let held = a.scene.now.held in
    let asked = c.requires in
    let from = c.row_start-n.ensures held.cluster held.fits.profiles-fit.in-range asked.row_in in
    record { within = from.0; none-at = λ k l. kind_at-other held.cluster _ _ a.row k (from.1 k l) }

pub returns-then-is_some : goal.returns-then-is_some
unfolding row_of
returns-then-is_some c =
    passed-found c.loop-n.invariant (below _ _ _ _ c.loop-n-test.true c.row_end-n-end.ensures) c.find_route-hit.ensures (hit-is_step _ _ ∙ sym c.is_some.ensures ∙ c.if-is_some.true)

pub loop-n-preserved : goal.loop-n-preserved
loop-n-preserved c =
    passed-more c.loop-n.invariant (below _ _ _ _ c.loop-n-test.true c.row_end-n-end.ensures) c.find_route-hit.ensures (hit-is_step _ _ ∙ sym c.is_some.ensures ∙ c.if-is_some.false)

-- nor is one past its last
pub returns : goal.returns
unfolding row_of hit_of
returns c =
    let ends = c.row_end-n-end.ensures in
    let a = c.args in
    let held = a.scene.now.held in
    passed-rest c.loop-n.invariant
    (λ k l h. kind_at-other held.cluster _ _ a.row k (ends.past k (omega (arith, c.loop-n-test.false)) h))
