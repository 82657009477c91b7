-- `capi::bpl_play` meets its contract: a short out first, then the script's play, its reply as numbers over out, and so the claim.
-- Assumes nothing.
use native.Mathlib.Omega.{arith}
use Rattle.interface.specs.Interface.{reply_numbers}
use Rattle.codes.proofs.Laws.{out-short}
use Rattle.capi.proofs.PlayLaws.{played-into}
use Rattle.capi.proofs.bpl_play.Goals as goal

pub returns-then-out-lt7 : goal.returns-then-out-lt7
returns-then-out-lt7 c =
    record {
      equal = out-short 7 reply_numbers _ _ _ c.if-out-lt7.true;
      claimed = λ enough. absurd (omega (arith, c.if-out-lt7.true));
    }

pub returns : goal.returns
returns c =
    played-into _ _ _ _ _ _ _ _ _ c.if-out-lt7.false c.play-reply.ensures c.tell_reply.ensures
