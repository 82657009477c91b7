-- `listing::list_accepted` meets its contract: as many words are lent as the plan has blocks.
-- Assumes nothing.
use mathlib.Core.Path.{◌≡◌, sym}
use Prim.Native.Nat.{ℕ, ◌≤◌}
use native.Mathlib.Omega.{arith}
use lib.ListN.{length, take, replicate}
use lib.Seq.{length-take-le}
use Rattle.model.specs.Refusal.{max_blocks}
use Rattle.listing.proofs.list_accepted.Goals as goal

-- the first of 1,024 words
prefix-length : (n : ℕ) → n ≤ max_blocks → length (take n (replicate {A = ℕ} max_blocks 0)) ≡ n
prefix-length n l = length-take-le n (replicate {A = ℕ} max_blocks 0) l

pub slice_bounds-put_listing-end : goal.slice_bounds-put_listing-end
slice_bounds-put_listing-end c = sym (prefix-length _ (omega (arith, c.args.plan.now.blocks_are, c.args.plan.now.records.blocks_max)))

pub put_listing-requires : goal.put_listing-requires
put_listing-requires c = (c.requires, prefix-length _ (omega (arith, c.args.plan.now.blocks_are, c.args.plan.now.records.blocks_max)))
