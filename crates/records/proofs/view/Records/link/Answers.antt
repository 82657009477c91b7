-- `records::Records::link` meets its contract: each return goes by the bytes that led there.
-- Assumes nothing.
use mathlib.Core.Path.{ap, sym, ◌∙◌}
use native.Mathlib.Omega.{arith}
use native.Mathlib.Nat.{pos_of_ne-zero}
use Rattle.cluster.specs.Blocks.{link_of}
use Rattle.cluster.proofs.Laws.{link_of-next, link_of-first, link_of-back}
use Rattle.records.proofs.Laws.{marked_next, unmarked-next, unpaired-link}
use Rattle.records.proofs.view.Records.link.Goals as goal

pub returns-then-self-eq0 : goal.returns-then-self-eq0
returns-then-self-eq0 c = (λ p of l. sym (unpaired-link p _ _ of c.if-self-eq0.true _ l), omega arith)

pub returns-then-pair_byte-eq1 : goal.returns-then-pair_byte-eq1
returns-then-pair_byte-eq1 c = (λ p of l. sym (link_of-next p _ (marked_next p _ _ of _ _ l c.pair_byte.ensures c.if-pair_byte-eq1.true)), omega arith)

pub returns-then-i-eq0 : goal.returns-then-i-eq0
returns-then-i-eq0 c = (
  λ p of l. let zero = c.if-i-eq0.true in sym (ap (link_of p) zero ∙ link_of-first p (rw zero at (unmarked-next p _ _ of _ _ l c.pair_byte.ensures c.if-pair_byte-eq1.false))),
  omega arith,
)

pub returns-then-pair_byte-eq1-2 : goal.returns-then-pair_byte-eq1-2
returns-then-pair_byte-eq1-2 c = (
  λ p of l.
      let preceding = marked_next p _ _ of _ _ (omega arith) c.pair_byte-2.ensures c.if-pair_byte-eq1-2.true in
      sym (link_of-back p _ (pos_of_ne-zero c.if-i-eq0.false) (unmarked-next p _ _ of _ _ l c.pair_byte.ensures c.if-pair_byte-eq1.false) ∙ (rw preceding)),
  omega arith,
)

pub returns : goal.returns
returns c = (
  λ p of l.
      let preceding = unmarked-next p _ _ of _ _ (omega arith) c.pair_byte-2.ensures c.if-pair_byte-eq1-2.false in
      sym (link_of-back p _ (pos_of_ne-zero c.if-i-eq0.false) (unmarked-next p _ _ of _ _ l c.pair_byte.ensures c.if-pair_byte-eq1.false) ∙ (rw preceding)),
  omega arith,
)
