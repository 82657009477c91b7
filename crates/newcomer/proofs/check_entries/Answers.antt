-- `newcomer::check_entries` meets its contract: the blocks that stand first, then the popularity, then rows 8 and 9.
-- Assumes nothing.
use mathlib.Core.Path.{refl}
use native.Mathlib.Omega.{arith}
use Rattle.std.proofs.lemmas.Bool.Decides.{nat_tests}
use Rattle.model.specs.Plan.{block_count}
use Rattle.model.specs.Recordings.{new_block, plan_with, check24}
use Rattle.cluster.proofs.Laws.{cluster-blocks, cluster-feeds, cluster-machines}
use Rattle.newcomer.proofs.Laws.{code_of-refused, code_of-passed, link_of-new, entries-are}
use Rattle.newcomer.proofs.check_entries.Goals as goal

pub returns-then-cluster-ge-MAX_BLOCKS : goal.returns-then-cluster-ge-MAX_BLOCKS
unfolding check24
returns-then-cluster-ge-MAX_BLOCKS c = λ p version of.
    let a = c.args in
    let b = new_block a.popularity a.least a.spread in
    let most = c.upper_count-most.ensures.0 (plan_with b p) (block_count p) version (cluster-machines p _ of)
    (link_of-new p of.valid.shaped b refl) in
    let rows = entries-are p of.valid.shaped b refl _ _ most (cluster-feeds p a.cluster of) in
    let count = cluster-blocks p _ of in
    grind (arith, nat_tests, code_of-refused)

pub returns : goal.returns
unfolding check24
returns c = λ p version of.
    let a = c.args in
    let b = new_block a.popularity a.least a.spread in
    let most = c.upper_count-most.ensures.0 (plan_with b p) (block_count p) version (cluster-machines p _ of)
    (link_of-new p of.valid.shaped b refl) in
    let rows = entries-are p of.valid.shaped b refl _ _ most (cluster-feeds p a.cluster of) in
    let count = cluster-blocks p _ of in
    grind (arith, nat_tests, code_of-passed)
