-- `index::Index::first_above` meets its contract: the shares rise, so the ranks up to the bound stand before the others.
-- Assumes nothing.
use Rattle.std.proofs.Common.{rules, List, ℕ, ◌≡◌, length, ◌<◌, ◌≤◌, arith, leb, leb-true, leb-false, get_or, take}
use lib.ListN.{length-take}
use lib.Seq.{get_or-take}
use Rattle.std.proofs.lemmas.List.Sorted.{IsPartitionPoint-from_clause, IsPartitionedBy-leb, IsNonDecreasingBy-from_default}
use Rattle.std.specs.List.Sorted.{IsNonDecreasingBy}
use Rattle.ranking.specs.Ranks.{key_share}
use Rattle.index.proofs.Index.first_above.Goals as goal

-- the keys of the blocks
module _ (keys : List ℕ) (blocks : ℕ) (room : blocks ≤ length keys) where
  keys-length : length (take blocks keys) ≡ blocks
  keys-length = omega (arith, length-take blocks keys)

  key-share_at : (k : ℕ) → k < blocks → key_share (get_or (take blocks keys) k 0) ≡ key_share (get_or keys k 0)
  key-share_at k l = rw (get_or-take blocks keys k 0 l)

  keys-rise : ((r q : ℕ) → r ≤ q → q < blocks → key_share (get_or keys r 0) ≤ key_share (get_or keys q 0))
      → IsNonDecreasingBy key_share (take blocks keys)
  keys-rise rising =
      IsNonDecreasingBy-from_default key_share (take blocks keys) 0
      (λ i j l h. rw (key-share_at i (omega (arith, keys-length)), key-share_at j (omega (arith, keys-length)))
      (rising i j l (omega (arith, keys-length))))

pub returns : goal.returns
returns c =
    let keys = c.args.self.now.keys in
    let blocks = c.args.cluster.blocks in
    let bound = c.args.bound in
    let room : blocks ≤ length keys = omega (arith, c.requires.blocks-max) in
    let sized = keys-length keys blocks room in
    let share = key-share_at keys blocks room in
    let within : c.partition_point.result ≤ blocks = omega (arith, sized, c.partition_point.ensures.bound) in
    let point = IsPartitionPoint-from_clause (λ key. leb (key_share key) bound) _ _ c.partition_point.ensures.partitioned
    (IsPartitionedBy-leb key_share _ bound (keys-rise keys blocks room c.requires.rising)) (λ a r q k. search rules) in
    record {
      within = within;
      passed = λ k l. rw (share k (omega arith)) at (leb-true _ _ (point.0 k 0 (omega arith) l));
      above = λ k l h. rw (share k h) at (leb-false _ _ (point.1 k 0 l (omega (arith, sized))));
    }
