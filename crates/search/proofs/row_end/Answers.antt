-- `search::row_end` meets its contract.
-- Assumes nothing.
use Prim.Native.Nat.{◌+◌, ◌*◌, ◌/◌, ◌≤◌}
use native.Mathlib.Nat.{mul-le-mul_right, div-lt_iff_lt-mul, add-mul, one-mul}
use native.Mathlib.Omega.{arith}
use Rattle.cluster.specs.Cluster.{machines_in}
use Rattle.search.proofs.Laws.{apart-after}
use Rattle.search.proofs.row_end.Goals as goal

-- the rack of m ends within the machines
rack-within : (c : goal.After-struct_known-2-1)
    → let a = c.args in
    a.row.low + a.cluster.rack_size ≤ machines_in a.cluster
rack-within c =
    let k = c.args.cluster in
    let size = k.rack_size in
    let in_row = c.requires.1 in
    let rack = (div-lt_iff_lt-mul c.requires.0.size-pos).1 in_row.m-below in
    let whole : (c.args.row.m / size + 1) * size ≤ k.racks * size = mul-le-mul_right size (omega (arith, rack)) in
    omega (arith, in_row.low-is, add-mul (c.args.row.m / size) 1 size, one-mul size)

-- machines past m's rack lie in other racks
pub returns : goal.returns
returns c =
    let in_row = c.requires.1 in
    record {
      within = rack-within c;
      past = λ n l h.
          rw (c.if-row.false, apart-after c.args.cluster.rack_size c.args.row.m n c.requires.0.size-pos (omega (arith, in_row.low-is)));
    }
