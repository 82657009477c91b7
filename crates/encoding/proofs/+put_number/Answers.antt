-- The bytes of n / 256 are put first, then the last one.
-- Assumes nothing.
use mathlib.Core.Path.{◌≡◌}
use mathlib.Core.List.{List, [], ◌∷◌, ◌++◌}
use Prim.Native.Nat.{ℕ, ◌-◌, ◌/◌, ◌%◌}
use native.Mathlib.Omega.{arith}
use Rattle.model.specs.Writing.{bytes_of}
use Rattle.text.specs.Pasted.{Room}
use Rattle.text.proofs.Laws.{put-none, room-first, room_next, put_then}
use Rattle.theory.proofs.Writing.{bytes_of-none, bytes_of-more}
use Rattle.encoding.proofs.+put_number.Goals as goal

-- a byte after those of n / 256
more_room : (at width n : ℕ) (old : List ℕ) → (width ≡ 0 → ⊥) → Room at (bytes_of width n) old
    → Room at (bytes_of (width - 1) (n / 256) ++ (n % 256) ∷ []) old
more_room at width n old some room = rw (bytes_of-more width n some) at room

pub returns-then-width-eq0 : goal.returns-then-width-eq0
returns-then-width-eq0 t c = rw (bytes_of-none _ _ c.if-width-eq0.true) (put-none _ _)

pub put_number-next-requires : goal.put_number-next-requires
put_number-next-requires t c =
    (omega arith, room-first _ _ _ _ (more_room _ _ _ _ c.if-width-eq0.false c.requires))

pub put_byte-requires : goal.put_byte-requires
put_byte-requires t c =
    room_next _ _ _ _ (more_room _ _ _ _ c.if-width-eq0.false c.requires) _ _ c.put_number-next.ensures

pub returns : goal.returns
returns t c =
    rw (bytes_of-more _ _ c.if-width-eq0.false)
    (put_then _ _ _ _ (more_room _ _ _ _ c.if-width-eq0.false c.requires) _ _ _ _ c.put_number-next.ensures c.put_byte.ensures)
