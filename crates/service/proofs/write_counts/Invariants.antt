-- `service::write_counts` meets its contract. The loop's invariant: the counts of the blocks passed are written.
-- Assumes nothing.
use mathlib.Core.Path.{◌≡◌}
use lib.ListN.{length, get_or}
use Rattle.order.specs.Table.{filled}
use Rattle.cluster.specs.Blocks.{count_in}
use Rattle.service.proofs.write_counts.Given as goal

abbrev pub invariant-loop-i : goal.invariant-loop-i
invariant-loop-i l =
    (length l.counts ≡ length l.initial.counts) × (l.counts ≡ filled l.i (λ k. count_in (get_or l.profiles k 0)) l.initial.counts)
