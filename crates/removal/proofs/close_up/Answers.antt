-- `removal::close_up` meets its contract: words moved down, and then the vacated ones cleared.
-- Assumes nothing.
use mathlib.Core.Path.{ap, ◌∙◌}
use Prim.Native.Nat.{ℕ, ◌-◌}
use native.Mathlib.Omega.{arith}
use lib.ListN.{drop, replicate, length-take, length-drop}
use Rattle.removal.proofs.Laws.{closed_up-made}
use Rattle.removal.proofs.close_up.Goals as goal

pub returns : goal.returns
returns c =
    let vacated = c.args.blocks - c.args.count in
    let cleared = length-take (c.args.blocks - vacated) (drop vacated c.copy_within.new.self) in
    let room = length-drop vacated c.copy_within.new.self in
    closed_up-made _ _ _ _ _ _ c.requires c.copy_within.ensures.after
    (c.fill.ensures.after (λ y e. e)
    ∙ ap (λ (n : ℕ). replicate {A = ℕ} n 0) (omega (arith, cleared, room, c.copy_within.ensures.len)))
