-- `loads::report` meets its contract. The loop's invariant: the three numbers are those of the loads passed.
-- Assumes nothing.
use mathlib.Core.Path.{◌≡◌}
use mathlib.Core.List.{List}
use Prim.Native.Nat.{ℕ, ◌*◌, ◌≤◌}
use lib.ListN.{get_or}
use Rattle.order.specs.Sum.{sum}
use Rattle.order.specs.Search.{largest, smallest}
use Rattle.theory.specs.Widths.{load_bound}
use Rattle.loads.proofs.report.Given as goal

-- the report of the first m loads
pub record Upto (load : List ℕ) (m max-load min-load total-load : ℕ) : Type 0 where
  pub max-is : max-load ≡ largest m (λ k. get_or load k 0)
  pub min-is : min-load ≡ smallest m (λ k. get_or load k 0)
  pub total-is : total-load ≡ sum m (λ k. get_or load k 0)
  pub total-max : total-load ≤ load_bound * m

abbrev pub invariant-loop-m : goal.invariant-loop-m
invariant-loop-m l = Upto l.loads.load l.m l.max_load l.min_load l.total_load
