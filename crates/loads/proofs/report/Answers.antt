-- `loads::report` meets its contract. The loop's invariant: the three numbers are those of the loads passed.
-- Assumes nothing.
use mathlib.Core.Path.{refl, sym}
use Prim.Native.Nat.{ℕ}
use native.Mathlib.Omega.{arith}
use lib.ListN.{get_or}
use Rattle.order.specs.Search.{smallest}
use Rattle.order.proofs.Sums.{sum-zero, sum_step}
use Rattle.order.proofs.Extremes.{largest-zero, largest_step, smallest-step}
use Rattle.loads.proofs.report.Goals as goal

pub loop-m-init : goal.loop-m-init
unfolding smallest
loop-m-init c = record { max-is = sym (largest-zero _); min-is = refl; total-is = sym (sum-zero _); total-max = omega arith }

pub loop-m-preserved : goal.loop-m-preserved
loop-m-preserved c =
    let m = c.loop-m.m in
    let load = c.args.loads.load in
    let inv = c.loop-m.invariant in
    let f : ℕ → ℕ = λ k. get_or load k 0 in
    let top = largest_step m f in
    let low = smallest-step m f in
    record {
      max-is = omega (arith, top, inv.max-is);
      min-is = omega (arith, low, inv.min-is);
      total-is = omega (arith, sum_step m f, inv.total-is);
      total-max = omega (arith, inv.total-max, c.requires.load-narrow m (omega (arith, c.requires.machines-max)));
    }
