-- `replication::profile_at` meets its contract.
-- Assumes nothing.
use Prim.Native.Nat.{◌<◌, ◌≤◌}
use native.Mathlib.Nat.{le_trans}
use native.Mathlib.Omega.{arith}
use Rattle.theory.specs.Widths.{most_replicas, popularity_bound}
use Rattle.theory.proofs.Replication.{share-bound}
use Rattle.needs.proofs.Laws.{fraction-of}
use Rattle.replication.proofs.profile_at.Goals as goal

pub invariant_of-share_at : goal.invariant_of-share_at
invariant_of-share_at c =
    let asked = c.requires in
    record { fits = fraction-of _ _ _ asked.in-range c.popularity_of-popularity.ensures asked.count-pos asked.count-max }

pub profile-requires : goal.profile-requires
profile-requires c =
    let asked = c.requires in
    let popular : c.popularity_of-popularity.result < popularity_bound =
    rw c.popularity_of-popularity.ensures asked.in-range.popularity-narrow
    in
    let few : c.args.count ≤ most_replicas = le_trans asked.count-max asked.in-range.most-max in
    (rw c.share_at-share.ensures (share-bound _ _ popular), omega arith, omega (arith, c.spread_asked-spread.ensures), omega (arith, c.link_of.ensures))

pub returns : goal.returns
returns c =
    rw (← c.popularity_of-popularity.ensures, ← c.share_at-share.ensures, ← c.spread_asked-spread.ensures, ← c.link_of.ensures.0)
    c.profile.ensures
