-- `newcomer::popularity_bound` meets its contract: the format's width is at most four bytes.
-- Assumes nothing.
use mathlib.Core.Path.{ap, ◌∙◌}
use native.Mathlib.Omega.{arith}
use Prim.Native.Nat.{◌^◌}
use Rattle.std.proofs.Math.Nat.{pow-le-pow_right}
use Rattle.model.specs.Plan.{Format}
use Rattle.newcomer.proofs.popularity_bound.Goals as goal

pub pow-requires : goal.pow-requires
pow-requires c = omega (arith, pow-le-pow_right {n = 256} (omega arith) c.format_of.result.popularity_max)

pub returns : goal.returns
returns c = c.pow.ensures ∙ ap (λ (f : Format). 256 ^ f.popularity_width) c.format_of.ensures
