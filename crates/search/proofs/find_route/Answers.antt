-- `search::find_route` meets its contract: each early return is a route at which the definition finds nothing.
-- Assumes nothing.
use mathlib.Core.Path.{◌≡◌, sym, ◌∙◌}
use mathlib.Core.Bool.{Bool, true}
use Prim.Native.Nat.{ℕ}
use native.Mathlib.Omega.{arith}
use Rattle.theory.proofs.Placement.{bit_le}
use Rattle.search.proofs.Routes.{kind_here, nothing-other, nothing-level, nothing-full, open-asked, open-found}
use Rattle.transfers.specs.Route.{hit_of}
use Rattle.transfers.specs.declared.view.Scene.{Scene}
use Rattle.search.specs.declared.Row.{Row}
use Rattle.search.specs.Scene.{OfKind, RouteAt}
use Rattle.search.proofs.find_route.Goals as goal

-- past the second test the route is of the kind
kind-here : {scene : Scene} {row : Row} {n : ℕ} {r : Bool} (asked : RouteAt scene row n)
    → OfKind row.low scene.held.cluster.rack_size n row.across r → r ≡ true → true ≡ kind_here asked
kind-here asked told e = sym e ∙ told _ asked.asked.row_in.low-is

pub returns-then-from-to : goal.returns-then-from-to
unfolding hit_of
returns-then-from-to c =
    nothing-level c.requires c.if-from-to.true

pub returns-then-not-of_kind : goal.returns-then-not-of_kind
unfolding hit_of
returns-then-not-of_kind c =
    nothing-other c.requires (sym c.if-not-of_kind.true ∙ c.of_kind.ensures c.args.row.m c.requires.asked.row_in.low-is)

pub returns-then-bit_at-eq0 : goal.returns-then-bit_at-eq0
unfolding hit_of
returns-then-bit_at-eq0 c =
    nothing-full c.requires (kind-here c.requires c.of_kind.ensures c.if-not-of_kind.false) (sym c.bit_at.ensures ∙ c.if-bit_at-eq0.true)

pub find_open-requires : goal.find_open-requires
find_open-requires c =
    open-asked c.requires (kind-here c.requires c.of_kind.ensures c.if-not-of_kind.false) c.if-from-to.false

pub returns : goal.returns
returns c =
    let a = c.args in
    open-found c.requires (kind-here c.requires c.of_kind.ensures c.if-not-of_kind.false) c.if-from-to.false _
    (omega (arith, c.bit_at.ensures, c.if-bit_at-eq0.false, bit_le a.row.targets a.n))
    c.find_open.ensures
