-- `arrival::roomy_parts` meets its contract. The loop's invariant: `roomy` has the parts passed that have a machine.
-- Assumes nothing.
use mathlib.Core.Path.{ap, sym, ◌∙◌}
use mathlib.Core.Bool.{Bool}
use mathlib.Core.List.{List}
use Prim.Native.Nat.{ℕ, ◌+◌, ◌^◌}
use native.Mathlib.Omega.{arith}
use borrow.Author.Tests.{lt-ltb, le-ltb}
use lib.Dec.{ltb}
use lib.ListN.{get_or}
use Rattle.theory.proofs.Placement.{bit-above}
use Rattle.arrival.proofs.Laws.{set_of-zero, set_of-with, set_of-without, set_of-below}
use Rattle.arrival.proofs.roomy_parts.Goals as goal

-- whether a part has a machine
abbrev has-machine : List ℕ → ℕ → Bool
has-machine parts d = ltb 0 (get_or parts d 0)

pub loop-d-init : goal.loop-d-init
loop-d-init c = sym (set_of-zero (has-machine c.args.parts.now))

pub with_bit-roomy-requires : goal.with_bit-roomy-requires
with_bit-roomy-requires c =
    let parts = c.args.parts.now in
    let d = c.loop-d.d in
    (omega (arith, c.requires.0), (rw c.loop-d.invariant (bit-above _ d (set_of-below (has-machine parts) d))))

pub loop-d-preserved : goal.loop-d-preserved
loop-d-preserved c =
    let parts = c.args.parts.now in
    let d = c.loop-d.d in
    elim c.if-parts-d-gt0.branch [
      | goal.then-parts-d-gt0 w ↦
          w.roomy-is ∙ w.with_bit-roomy.ensures ∙ ap (λ (x : ℕ). x + 2 ^ d) c.loop-d.invariant
          ∙ sym (set_of-with (has-machine parts) d (lt-ltb 0 (get_or parts d 0) w.if-parts-d-gt0.true))
      | goal.else-parts-d-gt0 w ↦
          w.roomy-is ∙ c.loop-d.invariant ∙ sym (set_of-without (has-machine parts) d (le-ltb 0 (get_or parts d 0) w.if-parts-d-gt0.false))
    ]
