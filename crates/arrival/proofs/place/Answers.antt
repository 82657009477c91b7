-- `arrival::place` meets its contract: refused for too few free machines or domains with one, or the spread's copies and then the others.
-- Assumes nothing.
use mathlib.Core.Path.{◌≡◌}
use Prim.Native.Nat.{ℕ, ◌≤◌, ◌<◌}
use native.Mathlib.Omega.{arith}
use lib.ListN.{length}
use Rattle.order.specs.Sum.{sum}
use Rattle.model.specs.Refusal.{max_machines}
use Rattle.model.specs.Placement.{bit}
use Rattle.arrival.proofs.Placing.{room-free, spread-asked, fill-asked, placed-machines, placed-domains, placed-word}
use Rattle.arrival.proofs.place.Goals as goal

-- the machines with a free place are as many as the least copies
enough : (free count least word : ℕ) → word ≡ free → count ≡ sum max_machines (bit word) → least ≤ count
    → least ≤ sum max_machines (bit free)
enough free count least word is counted l = rw (← is, ← counted) l

-- they are fewer
few : (set count most word : ℕ) → word ≡ set → count ≡ sum max_machines (bit word) → count < most
    → sum max_machines (bit set) < most
few set count most word is counted l = rw (← is, ← counted) l

pub returns-then-count_set-least : goal.returns-then-count_set-least
returns-then-count_set-least c =
    let a = c.args in
    placed-machines a.loads a.cluster a.least a.spread
    (few _ _ a.least _ (room-free c.args.loads c.args.cluster _ c.with_room-free.ensures) c.count_set.ensures c.if-count_set-least.true)

pub returns-then-count_set-spread : goal.returns-then-count_set-spread
returns-then-count_set-spread c =
    let a = c.args in
    let parted = rw (room-free c.args.loads c.args.cluster _ c.with_room-free.ensures) at c.by_domain-parts.ensures in
    placed-domains a.loads a.cluster a.least a.spread
    (enough _ _ a.least _ (room-free c.args.loads c.args.cluster _ c.with_room-free.ensures) c.count_set.ensures c.if-count_set-least.false) _ parted
    (few _ _ a.spread _ c.roomy_parts-roomy.ensures c.count_set-2.ensures c.if-count_set-spread.true)

pub spread_word-word-requires : goal.spread_word-word-requires
spread_word-word-requires c =
    let a = c.args in
    let parted = rw (room-free c.args.loads c.args.cluster _ c.with_room-free.ensures) at c.by_domain-parts.ensures in
    let sized : length a.loads.load ≡ max_machines = omega arith in
    rw c.roomy_parts-roomy.ensures
    (spread-asked _ _ _ parted a.loads _ _ c.requires.in-range c.domain_weights-weights.ensures sized
    (enough _ _ a.spread _ c.roomy_parts-roomy.ensures c.count_set-2.ensures c.if-count_set-spread.false))

pub fill_word-requires : goal.fill_word-requires
fill_word-requires c =
    let a = c.args in
    let parted = rw (room-free c.args.loads c.args.cluster _ c.with_room-free.ensures) at c.by_domain-parts.ensures in
    let sized : length a.loads.load ≡ max_machines = omega arith in
    let most = enough _ _ a.least _ (room-free c.args.loads c.args.cluster _ c.with_room-free.ensures) c.count_set.ensures c.if-count_set-least.false in
    rw (room-free c.args.loads c.args.cluster _ c.with_room-free.ensures)
    (fill-asked _ _ _ parted _ _ _ _ _ _ c.spread_word-word.ensures sized (omega (arith, c.requires.spread-max, most)))

pub returns : goal.returns
returns c =
    let a = c.args in
    let parted = rw (room-free c.args.loads c.args.cluster _ c.with_room-free.ensures) at c.by_domain-parts.ensures in
    placed-word a.loads a.cluster a.least a.spread
    (enough _ _ a.least _ (room-free c.args.loads c.args.cluster _ c.with_room-free.ensures) c.count_set.ensures c.if-count_set-least.false) _ parted
    (enough _ _ a.spread _ c.roomy_parts-roomy.ensures c.count_set-2.ensures c.if-count_set-spread.false)
    _ c.domain_weights-weights.ensures _ _
    (rw c.roomy_parts-roomy.ensures at c.spread_word-word.ensures)
    (rw (room-free c.args.loads c.args.cluster _ c.with_room-free.ensures) at c.fill_word.ensures)
