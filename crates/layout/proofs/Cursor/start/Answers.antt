-- `layout::Cursor::start` meets its contract: position 0 is rack 0 at level 0.
-- Assumes nothing.
use mathlib.Core.Path.{sym}
use Rattle.layout.proofs.Laws.{cursor_at-start}
use Rattle.layout.proofs.Cursor.start.Goals as goal

pub returns : goal.returns
returns c = sym (cursor_at-start c.args.cluster)
