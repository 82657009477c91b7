-- `transfers::is_free` meets its contract: it reads the bit n of the word of the block that block i is linked to.
-- Assumes nothing.
use mathlib.Core.Path.{ap, sym, ◌∙◌}
use Prim.Native.Nat.{ℕ}
use borrow.Author.Tests.{eqb-true, eq-eqb}
use Rattle.model.specs.Placement.{held}
use Rattle.transfers.proofs.is_free.Goals as goal

pub returns : goal.returns
returns c =
    let words = c.args.held.now.words.now in
    let n = c.args.n in
    let e = c.bit_at.ensures ∙ ap (λ (k : ℕ). held words n k) c.linked-k.ensures in
    (λ t. sym e ∙ eqb-true _ 0 t, λ f. eq-eqb _ 0 (e ∙ f))
