-- The machines that a step may lead to, as a word: those with room, and all of them.
-- Assumes nothing.
use mathlib.Core.Path.{refl, ap, ◌∙◌}
use mathlib.Core.Bool.{true, false}
use mathlib.Core.List.{List}
use Prim.Native.Nat.{ℕ, ◌<◌}
use native.Mathlib.Omega.{arith}
use lib.ListN.{get_or}
use Rattle.order.proofs.Booleans.{no-contradiction}
use Rattle.model.specs.Refusal.{max_machines}
use Rattle.theory.proofs.Placement.{bit-zero}
use Rattle.cluster.specs.declared.Cluster.{Cluster}
use Rattle.cluster.specs.Cluster.{machines_in}
use Rattle.bits.proofs.Laws.{bit_not}
use Rattle.loads.specs.Loads.{RoomTo}
use Rattle.transfers.specs.declared.view.Scene.{Scene}
use Rattle.search.specs.Scene.{FindAsked, TargetsOf}

module _ {scene : Scene} {copies : List ℕ} (asked : FindAsked scene copies) where
  abbrev c : Cluster
  c = scene.held.cluster

  abbrev words : List ℕ
  words = scene.held.words.now

  below : (n : ℕ) → n < machines_in c → n < max_machines
  below n l = omega (arith, scene.held.fits.profiles-fit.in-range.machines-max)

  -- a move leads to a machine with room
  pub targets-room : {r : ℕ} → RoomTo c copies (machines_in c) r → TargetsOf c words false r
  targets-room room n l =
      let same = ap (λ (list : List ℕ). get_or list n 0) asked.copies-are ∙ asked.all.loads-of.copies-are n (below n l) in (
        λ on moving. rw same at ((room.is n l).0 on),
        λ has. (room.is n l).1 (rw same (has refl)),
      )

  -- an exchange leads to any
  pub targets-all : TargetsOf c words true 18446744073709551615
  targets-all n l = (
    λ on moving. no-contradiction moving,
    λ has. omega (arith, bit_not 64 0 n (omega arith) (below n l), bit-zero n),
  )
