-- `needs::scale_of` meets its contract: a quotient times its divisor is at most the number divided, and the next one's is above it.
-- Assumes nothing.
use Prim.Native.Nat.{◌+◌, ◌*◌}
use native.Mathlib.Nat.{div-mul-le_self, lt-div-mul-add}
use native.Mathlib.Omega.{arith}
use Rattle.model.specs.Replication.{unit}
use Rattle.needs.specs.Needs.{parts}
use Rattle.needs.proofs.scale_of.Goals as goal

pub returns : goal.returns
returns c =
    record {
      scale-max = omega (arith, div-mul-le_self (unit * parts) (c.args.figure + 1));
      scale-next = omega (arith, lt-div-mul-add {a = unit * parts} {b = c.args.figure + 1} (omega arith));
    }
