-- `plan::Accepted::reread` meets its contract: the accepted bytes hold the records that are asked for.
-- Assumes nothing.
use native.Mathlib.Omega.{arith}
use Rattle.plan.proofs.Laws.{accepted-file}
use Rattle.plan.proofs.passed.Accepted.reread.Goals as goal

pub format_in-requires : goal.format_in-requires
format_in-requires c = omega (arith, c.args.self.now.records.room)

pub file_records-requires : goal.file_records-requires
file_records-requires c = accepted-file _ _ c.args.self.now.accepts _ c.format_in.ensures
