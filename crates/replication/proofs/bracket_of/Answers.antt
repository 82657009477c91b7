-- `replication::bracket_of` meets its contract: the ends are those that it is given, and the rest is in range.
-- Assumes nothing.
use mathlib.Core.Path.{refl}
use Prim.Native.Nat.{◌+◌, ◌*◌}
use native.Mathlib.Nat.{div-le_self}
use native.Mathlib.Omega.{arith}
use Rattle.model.specs.Replication.{unit}
use Rattle.replication.proofs.bracket_of.Goals as goal

pub overflow_mul-copies : goal.overflow_mul-copies
overflow_mul-copies c = omega (arith, c.requires.popularity-max)

pub overflow_add-copies-2 : goal.overflow_add-copies-2
overflow_add-copies-2 c =
    omega
    (arith, div-le_self (c.args.extent.popularity * unit) (c.args.extent.low + 1), c.requires.popularity-max, c.requires.blocks-max)

pub returns : goal.returns
returns c =
    let asked = c.requires in (
      refl,
      refl,
      record {
        high-narrow = asked.high-narrow;
        over-max = omega arith;
        spare-max = omega (arith, asked.limit-max);
        turn_below = omega arith;
      },
    )
