-- `search::find` meets its contract: the kinds in the definition's order, each tried where those before it found nothing.
-- Assumes nothing.
use mathlib.Core.Path.{◌≡◌, refl}
use mathlib.Core.Bool.{true, false}
use mathlib.Core.List.{List}
use Prim.Native.Nat.{ℕ}
use Rattle.cluster.specs.Cluster.{machines_in}
use Rattle.transfers.specs.declared.view.Scene.{Scene}
use Rattle.search.specs.declared.Kind.{Kind}
use Rattle.search.specs.Scene.{is_exchange, FindAsked, KindSearchAsked}
use Rattle.loads.specs.Loads.{RoomTo}
use Rattle.search.proofs.Laws.{kind-found, kind-later, next_step-kinds}
use Rattle.search.proofs.Targets.{targets-room, targets-all}
use Rattle.search.proofs.find.Goals as goal

-- an exchange may lead to any machine, and a move to one with room
module _ {scene : Scene} {copies : List ℕ} (asked : FindAsked scene copies) (kind : Kind) where
  all-asked : is_exchange kind ≡ true → KindSearchAsked scene kind 18446744073709551615
  all-asked e = record { all = asked.all; targets-are = rw e (targets-all asked) }

  room-asked : {room : ℕ} → RoomTo scene.held.cluster copies (machines_in scene.held.cluster) room → is_exchange kind ≡ false → KindSearchAsked scene kind room
  room-asked room e = record { all = asked.all; targets-are = rw e (targets-room asked room) }

pub find_kind-requires-2 : goal.find_kind-requires-2
find_kind-requires-2 c = all-asked c.requires _ refl

pub find_kind-requires-4 : goal.find_kind-requires-4
find_kind-requires-4 c = all-asked c.requires _ refl

pub returns-in-Some : goal.returns-in-Some
returns-in-Some c =
    next_step-kinds _ (kind-found _ _ (kind-found _ _ (kind-found _ _ c.in-Some.ensures)))

pub returns-in-Some-find_kind : goal.returns-in-Some-find_kind
returns-in-Some-find_kind c =
    next_step-kinds _ (kind-found _ _ (kind-found _ _ (kind-later _ _ c.in_default.ensures c.in-Some-find_kind.ensures)))

pub returns-in-Some-find_kind-2 : goal.returns-in-Some-find_kind-2
returns-in-Some-find_kind-2 c =
    next_step-kinds _ (kind-found _ _
    (kind-later _ _ (kind-later _ _ c.in_default.ensures c.in_default-find_kind.ensures) c.in-Some-find_kind-2.ensures))

pub returns : goal.returns
returns c =
    next_step-kinds _ (kind-later _ _
    (kind-later _ _ (kind-later _ _ c.in_default.ensures c.in_default-find_kind.ensures) c.in_default-find_kind-2.ensures)
    c.find_kind-4.ensures)
