-- `records::max_replicas` meets its contract.
-- Assumes nothing.
use native.Mathlib.Omega.{arith}
use Rattle.theory.proofs.Plan.{max_replicas-early, max_replicas-later}
use Rattle.records.proofs.max_replicas.Goals as goal

pub returns-then-version-lt3 : goal.returns-then-version-lt3
returns-then-version-lt3 c = (max_replicas-early _ (omega arith), omega arith)

pub returns : goal.returns
returns c = (max_replicas-later _ (omega arith), omega arith)
