-- `index::Index::start` meets its contract: the order is that of the ranked keys and of the ranks.
-- Assumes nothing.
use Rattle.index.proofs.Laws.{ranked-ordered}
use Rattle.index.proofs.Index.start.Goals as goal

pub returns : goal.returns
returns c =
    let fit = c.requires.0 in
    let cleared = c.requires.1 in
    let ranked = c.rank.ensures in (
      ranked-ordered fit.in-range.blocks-max ranked (c.ranks.ensures _ fit ranked),
      record { by_number = cleared.by_number; by_rank = cleared.by_rank },
    )
