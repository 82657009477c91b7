-- `index::Index::enter` meets its contract. The loop's invariant: the block is entered at the machines that have left the bits to come,
-- by number and by rank, and nothing else has changed.
-- Assumes nothing.
use Rattle.index.proofs.Laws.{marking-clear, marking_step, marking-done}
use Rattle.index.proofs.Index.enter.Goals as goal

pub mark-requires : goal.mark-requires
mark-requires c =
    record {
      m-below = c.in-Some.ensures.steps.0.below;
      below = c.requires.below;
      clear = marking-clear c.in-Some.ensures.steps.0 c.loop-m.invariant.number;
    }

pub mark-requires-in-loop-m : goal.mark-requires-in-loop-m
mark-requires-in-loop-m c =
    record {
      m-below = c.in-Some.ensures.steps.0.below;
      below = c.requires.rank_below;
      clear = marking-clear c.in-Some.ensures.steps.0 c.loop-m.invariant.rank;
    }

pub loop-m-preserved : goal.loop-m-preserved
loop-m-preserved c =
    let low = c.in-Some.ensures.steps.0 in
    let inv = c.loop-m.invariant in
    record {
      number = rw c.in-Some.ensures.steps.1 (marking_step low inv.number c.requires.below c.mark.ensures);
      rank = rw c.in-Some.ensures.steps.1 (marking_step low inv.rank c.requires.rank_below c.mark-in-loop-m.ensures);
      kept = record { keys = inv.kept.keys; ranks = inv.kept.ranks; loads = inv.kept.loads };
    }

pub returns : goal.returns
returns c =
    let inv = c.loop-m.invariant in
    let done = c.in-None.ensures.steps.0 in
    record {
      numbered = marking-done done inv.number;
      ranked = marking-done done inv.rank;
      kept = inv.kept;
    }
