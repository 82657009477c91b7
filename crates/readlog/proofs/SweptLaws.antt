-- Laws of a list that is swept record by record.
-- Assumes nothing.
use mathlib.Core.Path.{◌≡◌, refl, ◌∙◌}
use mathlib.Core.Bool.{Bool, true, false, cond}
use mathlib.Core.List.{List}
use Prim.Native.Nat.{ℕ, zero, suc, ◌+◌, ◌≤◌}
use native.Mathlib.Numerals.{add-one}
use native.Mathlib.Omega.{arith}
use lib.Dec.{ltb}
use lib.ListN.{length, get_or, length-set}
use Rattle.model.specs.declared.Entry.{Entry}
use Rattle.model.specs.ReadLog.{no_entry, age, window}
use Rattle.readwindow.specs.Window.{kept_with}
use Rattle.readlog.specs.Records.{sweep, swept}

kept_with-max : (kept now tick : ℕ) → kept_with kept now tick ≤ kept + 1
unfolding kept_with
kept_with-max kept now tick = go (ltb (age now tick) window)
  where
    go : (b : Bool) → cond b (kept + 1) kept ≤ kept + 1
    go true = omega arith
    go false = omega arith

-- a turn of the loop is one more sweep
pub swept_none : (tick : ℕ) (list : List Entry) → swept tick list 0 ≡ record { list = list; kept = 0 }
unfolding swept
swept_none tick list = refl

pub swept-next : (tick : ℕ) (list : List Entry) (i : ℕ) → swept tick list (i + 1) ≡ sweep tick i (swept tick list i)
unfolding swept
swept-next tick list i = rw (add-one i)

-- the length stays, and no more are kept than were swept
pub swept-length : (tick : ℕ) (list : List Entry) (i : ℕ) → length (swept tick list i).list ≡ length list
unfolding swept sweep
swept-length tick list zero = refl
swept-length tick list (suc i) = length-set (swept tick list i).list (swept tick list i).kept _ ∙ swept-length tick list i

pub swept_kept : (tick : ℕ) (list : List Entry) (i : ℕ) → (swept tick list i).kept ≤ i
unfolding swept sweep
swept_kept tick list zero = omega arith
swept_kept tick list (suc i) =
    let before = swept_kept tick list i in
    let more = kept_with-max (swept tick list i).kept tick (get_or (swept tick list i).list i no_entry).tick in
    omega (arith, before, more)
