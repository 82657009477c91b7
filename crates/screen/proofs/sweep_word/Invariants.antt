-- `screen::sweep_word` meets its contract. The loop's invariant: the ranks below base + c are swept, and the bits to come are those from
-- c on at which a and b differ.
-- Assumes nothing.
use mathlib.Core.Path.{◌≡◌}
use Prim.Native.Nat.{ℕ, ◌+◌, ◌%◌, ◌<◌, ◌≤◌}
use Rattle.model.specs.Placement.{bit}
use Rattle.index.specs.declared.Index.{Index}
use Rattle.screen.specs.declared.Sweep.{Sweep}
use Rattle.screen.specs.Screen.{SweptBelow, SharesRise, Bits}
use Rattle.screen.proofs.sweep_word.Given as goal

-- the ranks from base to base + c are swept
abbrev pub Reached : ℕ → ℕ → Index → ℕ → ℕ → Sweep → ℕ → Sweep → Type 0
Reached a b index base margin s c r =
    (mine theirs : ℕ → ℕ) (blocks : ℕ) → SharesRise index blocks → Bits mine theirs a b base
    → SweptBelow mine theirs index margin blocks base s.top s.reach s.under
    → SweptBelow mine theirs index margin blocks (base + c) r.top r.reach r.under

-- `rest` has the differing bits from c on, and none below
pub record Left (a b rest c : ℕ) : Type 0 where
  pub ahead : (t : ℕ) → t < 64 → c ≤ t → bit rest t ≡ (bit a t + bit b t) % 2
  pub behind : (t : ℕ) → t < c → bit rest t ≡ 0

abbrev pub invariant-loop-t : goal.invariant-loop-t
invariant-loop-t l =
    (c : ℕ) × (c ≤ 64) × Left l.a l.b l.t-iterator.rest c × Reached l.a l.b l.index l.base l.margin l.initial.sweep c l.sweep
