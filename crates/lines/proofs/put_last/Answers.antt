-- `lines::put_last` meets its contract, arm by arm.
-- Assumes nothing.
use Rattle.lines.specs.Rows.{ended_row}
use Rattle.lines.proofs.put_last.Goals as goal

pub put_end-requires : goal.put_end-requires
unfolding ended_row
put_end-requires c = rw c.in-Rested.is at c.requires

pub put_end-requires-in-Spent : goal.put_end-requires-in-Spent
unfolding ended_row
put_end-requires-in-Spent c = rw c.in-Spent.is at c.requires

pub returns-in-Rested : goal.returns-in-Rested
unfolding ended_row
returns-in-Rested c = rw c.in-Rested.is c.put_end.ensures

pub returns-in-Spent : goal.returns-in-Spent
unfolding ended_row
returns-in-Spent c = rw c.in-Spent.is c.put_end-in-Spent.ensures
