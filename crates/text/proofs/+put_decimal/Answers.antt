-- The digits of n / 10 are put first, then the last one.
-- Assumes nothing.
use mathlib.Core.Path.{ap}
use mathlib.Core.List.{List, [], ◌∷◌, ◌++◌}
use Prim.Native.Nat.{ℕ, ◌+◌, ◌/◌, ◌%◌, ◌<◌, ◌≤◌}
use native.Mathlib.Nat.{mod-eq_of_lt}
use native.Mathlib.Omega.{arith}
use lib.ListN.{length}
use Rattle.model.specs.Listing.{decimal}
use Rattle.theory.proofs.Listing.{decimal-one, decimal-more}
use Rattle.text.specs.Pasted.{Room, Put}
use Rattle.text.proofs.Laws.{room-first, room_next, put_then}
use Rattle.text.proofs.+put_decimal.Goals as goal

-- one digit
last-room : (at n : ℕ) (old : List ℕ) → n < 10 → Room at (decimal n) old → Room at ((48 + n % 10) ∷ []) old
last-room at n old small room =
    let one = ap length (decimal-one n small) in
    record { fits = omega (arith, room.fits) }

last-put : (at n : ℕ) (old text : List ℕ) (next : ℕ) → n < 10 → Put at ((48 + n % 10) ∷ []) old text next
    → Put at (decimal n) old text next
last-put at n old text next small put =
    rw (decimal-one n small) (rw (mod-eq_of_lt small) at put)

-- a digit after those of n / 10
more_room : (at n : ℕ) (old : List ℕ) → 10 ≤ n → Room at (decimal n) old
    → Room at (decimal (n / 10) ++ (48 + n % 10) ∷ []) old
more_room at n old large room = rw (decimal-more n large) at room

pub put_byte-requires : goal.put_byte-requires
put_byte-requires t c = last-room _ _ _ c.if-n-lt10.true c.requires

pub returns-then-n-lt10 : goal.returns-then-n-lt10
returns-then-n-lt10 t c = last-put _ _ _ _ _ c.if-n-lt10.true c.put_byte.ensures

pub put_decimal-next-requires : goal.put_decimal-next-requires
put_decimal-next-requires t c =
    (omega arith, room-first _ _ _ _ (more_room _ _ _ c.if-n-lt10.false c.requires))

pub put_byte-requires-2 : goal.put_byte-requires-2
put_byte-requires-2 t c =
    room_next _ _ _ _ (more_room _ _ _ c.if-n-lt10.false c.requires) _ _ c.put_decimal-next.ensures

pub returns : goal.returns
returns t c =
    rw (decimal-more _ c.if-n-lt10.false)
    (put_then _ _ _ _ (more_room _ _ _ c.if-n-lt10.false c.requires) _ _ _ _ c.put_decimal-next.ensures c.put_byte-2.ensures)
