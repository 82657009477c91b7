-- The machines that have room, one machine after the other.
-- Assumes nothing.
use mathlib.Core.Path.{◌≡◌, refl, ◌∙◌}
use mathlib.Core.List.{List}
use Prim.Native.Nat.{ℕ, ◌+◌, ◌^◌, ◌<◌, ◌≤◌}
use native.Mathlib.Decide.{ℕ_discrete}
use native.Mathlib.Omega.{arith}
use lib.ListN.{get_or}
use Rattle.order.specs.Sum.{delta}
use Rattle.order.proofs.Sums.{delta-same, delta-other}
use Rattle.model.specs.Placement.{bit}
use Rattle.theory.proofs.Placement.{bit-add, bit-zero}
use Rattle.cluster.specs.declared.Cluster.{Cluster}
use Rattle.loads.specs.Loads.{RoomTo}

pub room-none : {c : Cluster} {copies : List ℕ} → RoomTo c copies 0 0
room-none = record { is = λ n l. absurd (omega arith); past = λ n l. bit-zero n }

-- one machine more, which has room or is full
module _ {c : Cluster} {copies : List ℕ} {n r : ℕ} (room : RoomTo c copies n r) where
  pub room_open : get_or copies n 0 < c.capacity → RoomTo c copies (n + 1) (r + 2 ^ n)
  room_open l =
      record {
        is = λ k h. elim (ℕ_discrete k n) [
          | yes e ↦ rw e ((λ b. l), (λ b. omega (arith, set n, delta-same n n refl, room.past n (omega arith))))
          | no d ↦ rw (other k d) (room.is k (omega arith))
        ];
        past = λ k h. other k (λ e. omega arith) ∙ room.past k (omega arith);
      }
    where
      set : (k : ℕ) → bit (r + 2 ^ n) k ≡ bit r k + delta k n
      set = bit-add r n (room.past n (omega arith))

      other : (k : ℕ) → (k ≡ n → ⊥) → bit (r + 2 ^ n) k ≡ bit r k
      other k d = omega (arith, set k, delta-other k n d)

  pub room-full : c.capacity ≤ get_or copies n 0 → RoomTo c copies (n + 1) r
  room-full l =
      record {
        is = λ k h. elim (ℕ_discrete k n) [
          | yes e ↦ rw e ((λ b. absurd (omega (arith, room.past n (omega arith)))), (λ b. absurd (omega arith)))
          | no d ↦ room.is k (omega arith)
        ];
        past = λ k h. room.past k (omega arith);
      }
