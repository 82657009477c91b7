-- Laws of shares and needs that several functions cite, `replication::fill` too.
-- Assumes nothing.
use mathlib.Core.Path.{◌≡◌, sym}
use mathlib.Core.List.{List}
use Prim.Native.Nat.{ℕ, ◌<◌, ◌≤◌, ◌∣◌}
use native.Mathlib.Nat.{le_trans, le_of_lt}
use lib.ListN.{get_or, length, take}
use native.Mathlib.Omega.{arith}
use Rattle.std.proofs.lemmas.List.{get_or-take, length-take-le}
use Rattle.model.specs.Plan.{Plan, upper}
use Rattle.model.specs.Replication.{unit, need}
use Rattle.theory.proofs.Replication.{unit-divides, need-is}
use Rattle.cluster.specs.declared.Cluster.{Cluster}
use Rattle.cluster.specs.Blocks.{popularity_in, most_in, DemandInRange, DemandsFit, DemandsOf}
use Rattle.cluster.proofs.Laws.{cluster-block, demands-popularity, demands-least, demands-most}
use Rattle.needs.specs.declared.fractions.Fraction.{Fraction}
use Rattle.needs.specs.Fractions.{FractionFits}
use Rattle.needs.specs.Needs.{NeedOf}

-- ── FractionFits ─────────────────────────────────────────────────────────────────────────────────
pub fraction-divides : (f : Fraction) → f.count ∣ unit
fraction-divides f = unit-divides f.count f.fits.count-pos f.fits.count-max

-- a block's popularity, with a count from 1 to its upper one
pub fraction-of : (demand popularity count : ℕ) → DemandInRange demand → popularity ≡ popularity_in demand → 1 ≤ count → count ≤ most_in demand
    → FractionFits popularity count
fraction-of demand popularity count d is pos max =
    record {
      popularity-max = rw is (le_of_lt d.popularity-narrow);
      count-pos = pos;
      count-max = le_trans max d.most-max;
    }

-- ── demands of a plan ────────────────────────────────────────────────────────────────────────────
module _ (p : Plan) (c : Cluster) (demands : List ℕ) (of : DemandsOf p c demands) where
  -- the count found is the block's need, and lawful
  pub need-of : (i wanted r : ℕ) → i < c.blocks → NeedOf (get_or demands i 0) wanted r → (r ≡ need p wanted i) × (r ≤ upper p i)
  need-of i wanted r l found =
      let P = demands-popularity p c demands of i l in
      let least = demands-least p c demands of i l in
      let most = demands-most p c demands of i l in
      let high = rw most at found.high in (
        sym
            (need-is p i (cluster-block p c of.cluster i l) wanted r
            (rw least at found.low)
            high
            (rw P at found.within)
            (rw (P, least) at found.less-above)),
        high,
      )

-- ── a pass over the blocks ───────────────────────────────────────────────────────────────────────
-- the demand at an index of the part that belongs to blocks is that block's, and in its ranges
pub block-here : (c : Cluster) (demands : List ℕ) → DemandsFit c demands → (i : ℕ) → i < length (take c.blocks demands)
    → (i < c.blocks) × (get_or (take c.blocks demands) i 0 ≡ get_or demands i 0) × DemandInRange (get_or (take c.blocks demands) i 0)
block-here c demands fit i l =
    let below : i < c.blocks = omega (arith, length-take-le c.blocks demands fit.room) in
    let is = get_or-take c.blocks demands i 0 below in
    (below, is, rw is (fit.each i below))
