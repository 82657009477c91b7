-- `replication::choose` meets its contract: the needs at the figure found are the chosen counts.
-- Assumes nothing.
use Rattle.theory.proofs.Replication.{reachable-upper}
use Rattle.replication.proofs.Laws.{most-within}
use Rattle.replication.proofs.choose.Goals as goal

pub best_figure-figure-requires : goal.best_figure-figure-requires
best_figure-figure-requires c = c.requires

pub fill_needed-requires : goal.fill_needed-requires
fill_needed-requires c =
    let asked = c.requires in
    let of = asked.limited.demands-of in
    let figure = c.best_figure-figure.ensures in
    record {
      fit = asked.fit;
      wanted-narrow = figure.1;
      most-within = most-within asked.plan _ _ of _
          (reachable-upper asked.plan of.cluster.valid _ (figure.0 asked.plan asked.limited).reached);
    }

pub returns : goal.returns
returns c p of = c.fill_needed.ensures p of.demands-of (c.best_figure-figure.ensures.0 p of)
