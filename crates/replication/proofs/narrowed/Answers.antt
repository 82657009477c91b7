-- `replication::narrowed` meets its contract: a figure whose needs are within the limit is reachable; one whose needs are above it is not,
-- nor is any up to where the needs change.
-- Assumes nothing.
use mathlib.Core.Path.{◌≡◌}
use mathlib.Core.Bool.{true}
use Prim.Native.Nat.{ℕ, min}
use native.Mathlib.Nat.{min-eq_left, min-eq_right, le_of_lt, lt_of_not-le}
use native.Mathlib.Decide.{dec_le}
use native.Mathlib.Omega.{arith}
use Rattle.model.specs.Plan.{Plan}
use Rattle.model.specs.Replication.{reachable}
use Rattle.theory.proofs.Replication.{reachable-none}
use Rattle.replication.proofs.Laws.{tally-reached, tally-next-reached}
use Rattle.replication.proofs.narrowed.Goals as goal

-- the smaller of two figures that are reachable is
reachable-smaller : (p : Plan) (f g : ℕ) → reachable p f ≡ true → reachable p g ≡ true → reachable p (min f g) ≡ true
reachable-smaller p f g here there =
    elim (dec_le f g) [ yes l ↦ rw (min-eq_left l) here | no l ↦ rw (min-eq_right (le_of_lt (lt_of_not-le l))) there ]

pub turn_after-turn-requires : goal.turn_after-turn-requires
turn_after-turn-requires c = c.requires.fits.turn_below

pub returns-then-tally-allowed : goal.returns-then-tally-allowed
returns-then-tally-allowed c =
    let asked = c.requires in
    record {
      fits = record {
        high-narrow = omega (arith, asked.fits.high-narrow, asked.wanted-less);
        over-max = asked.fits.over-max;
        spare-max = omega (arith, asked.limit-max);
        turn_below = c.turn_after-turn.ensures;
      };
      less = omega (arith, asked.low-max, asked.wanted-less);
      of = λ p valid limit_is tally at.
          record {
            low-min = at.low-min;
            unreached = at.unreached;
            reached = tally-reached p _ _ tally (omega (arith, c.if-tally-allowed.true));
          };
    }

pub returns-then-tally-allowed-2 : goal.returns-then-tally-allowed-2
returns-then-tally-allowed-2 c =
    let asked = c.requires in
    let t = c.args.tally in
    record {
      fits = record {
        high-narrow = omega (arith, asked.fits.high-narrow, c.min.ensures);
        over-max = omega arith;
        spare-max = asked.fits.spare-max;
        turn_below = c.turn_after-turn.ensures;
      };
      less = omega (arith, asked.low-max, asked.wanted-less, c.min.ensures);
      of = λ p valid limit_is tally at.
          record {
            low-min = omega (arith, at.low-min, asked.low-max, asked.next-above);
            unreached = reachable-none p valid _ t.next (omega (arith, tally.total-is)) tally.same;
            reached = rw c.min.ensures
                (reachable-smaller p _ _
                (tally-next-reached p _ _ valid tally asked.next-above (omega (arith, c.if-tally-allowed-2.true)))
                at.reached);
          };
    }

pub returns : goal.returns
returns c =
    let asked = c.requires in
    let t = c.args.tally in
    record {
      fits = record {
        high-narrow = asked.fits.high-narrow;
        over-max = omega (arith, asked.fewer-max);
        spare-max = asked.fits.spare-max;
        turn_below = c.turn_after-turn.ensures;
      };
      less = omega (arith, asked.low-max, asked.wanted-less, asked.next-above);
      of = λ p valid limit_is tally at.
          record {
            low-min = omega (arith, at.low-min, asked.low-max, asked.next-above);
            unreached = reachable-none p valid _ t.next (omega (arith, tally.total-is)) tally.same;
            reached = at.reached;
          };
    }
