-- `removal::remove` meets its contract: the blocks that go are told by the link, and their words go.
-- Assumes nothing.
use Rattle.removal.proofs.Laws.{removed-as}
use Rattle.removal.proofs.remove.Goals as goal

pub gone_with-gone-requires : goal.gone_with-gone-requires
gone_with-gone-requires c = let asked = c.requires in (asked.0.profiles-fit.linked _ asked.1).some

pub close_up-requires : goal.close_up-requires
close_up-requires c =
    let asked = c.requires in
    record {
      inside = c.gone_with-gone.ensures.below _ asked.1 (asked.0.profiles-fit.linked _ asked.1);
      room = asked.0.word_room;
    }

pub returns : goal.returns
returns c p count of =
    let asked = c.requires in
    removed-as p count _ _ of _ asked.1 _ _ _ c.gone_with-gone.ensures c.close_up.ensures
