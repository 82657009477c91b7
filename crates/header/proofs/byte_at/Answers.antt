-- `header::byte_at` meets its contract: in no byte stands 0, in one the byte.
-- Assumes nothing.
use mathlib.Core.Path.{◌≡◌, ap, sym}
use mathlib.Core.List.{List}
use Prim.Native.Nat.{ℕ, ◌+◌, ◌≤◌, ◌<◌, ◌^◌}
use native.Mathlib.Nat.{add-zero}
use native.Mathlib.Omega.{arith}
use lib.ListN.{get_or}
use Rattle.model.specs.Plan.{field}
use Rattle.header.proofs.byte_at.Goals as goal

-- the field of one byte
one_byte : (bytes : List ℕ) (at byte width : ℕ) → width ≤ 1 → (width ≡ 0 → ⊥) → byte ≡ get_or bytes at 0 → byte < 256
    → (byte ≡ field bytes at width) × (byte < 256 ^ width)
unfolding field
one_byte bytes at byte width l some is small =
    let one : width ≡ 1 = omega (arith, some) in
    let here : get_or bytes at 0 ≡ get_or bytes (at + 0) 0 = ap (λ (k : ℕ). get_or bytes k 0) (sym (add-zero at)) in
    rw one (omega (arith, is, here), omega arith)

pub returns-then-width-eq0 : goal.returns-then-width-eq0
unfolding field
returns-then-width-eq0 c = rw c.if-width-eq0.true (omega arith, omega arith)

pub returns : goal.returns
returns c =
    one_byte _ _ _ _ c.requires.1 c.if-width-eq0.false c.from.ensures (omega (arith, c.type_inv.bytes c.args.at))
