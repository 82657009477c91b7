-- `input::read_full` meets its contract: what each read puts behind what came before is what the reader gave for it.
-- Assumes nothing.
use Rattle.std.proofs.Common.{rules, sym, subst}
use Rattle.std.specs.Io.KnownBytes.{Consumes}
use Rattle.std.proofs.KnownBytes.{Consumes-trans}
use Rattle.input.proofs.Parts.{take-part}
use Rattle.input.proofs.read_full.Goals as goal

pub loop-size-preserved : goal.loop-size-preserved
loop-size-preserved g c =
    let joined = take-part c.loop-size.size c.in_ok-more.more c.loop-size.part c.read.new.buf c.loop-size.invariant.1 c.in_ok-more.ensures.bound.0 in (
      search rules,
      search rules,
      subst (Consumes _ _) (sym joined) (Consumes-trans _ _ _ _ _ c.loop-size.invariant.2 c.in_ok-more.ensures.bytes.0),
    )
