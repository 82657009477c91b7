-- `layout::lay_all` meets its contract. The loop's invariant: the words of the blocks passed are laid, and the cursor stands past them.
-- Assumes nothing.
use mathlib.Core.Path.{◌≡◌, refl, ◌∙◌}
use Prim.Native.Nat.{ℕ, ◌<◌}
use native.Mathlib.Omega.{arith}
use lib.ListN.{length-set}
use Rattle.order.proofs.Tables.{filled_none, filled_more}
use Rattle.model.specs.Plan.{Plan}
use Rattle.model.specs.Replication.{chosen}
use Rattle.theory.proofs.Replication.{chosen-counts}
use mathlib.Core.List.{List}
use lib.ListN.{get_or}
use Rattle.cluster.specs.declared.Cluster.{Cluster}
use Rattle.cluster.specs.Blocks.{count_in, ProfilesOf}
use Rattle.cluster.proofs.Laws.{profiles-count}
use Rattle.layout.proofs.Laws.{cursor_for-first, block-asked, block-laid}
use Rattle.layout.proofs.lay_all.Goals as goal

-- the count read is the block's chosen count
chosen-here : (p : Plan) (cluster : Cluster) (profiles : List ℕ) (i count : ℕ) → ProfilesOf p (chosen p) cluster profiles → i < cluster.blocks
    → count ≡ count_in (get_or profiles i 0) → count ≡ chosen p i
chosen-here p cluster profiles i count of l is =
    is ∙ profiles-count p (chosen p) _ _ of (chosen-counts p of.cluster.valid).feasible.at_most _ (omega arith)

pub loop-i-init : goal.loop-i-init
loop-i-init c = (refl, λ p of. (filled_none _ _, c.start-cursor.ensures ∙ cursor_for-first p _))

pub lay-laid-requires : goal.lay-laid-requires
lay-laid-requires c =
    let asked = c.requires in
    let p = asked.plan in
    let of = asked.profiles-of in
    rw (chosen-here p _ _ c.loop-i.i _ of (omega arith) c.count_of.ensures) (block-asked p _ of.cluster c.loop-i.i _ (c.loop-i.invariant.1 p of).1 (omega arith))

pub loop-i-preserved : goal.loop-i-preserved
loop-i-preserved c =
    let i = c.loop-i.i in
    let inv = c.loop-i.invariant in (
      simp length-set inv.0,
      λ p of.
          let before = inv.1 p of in
          let laid = block-laid p _ of.cluster i _ before.1 _ (rw (chosen-here p _ _ c.loop-i.i _ of (omega arith) c.count_of.ensures) at c.lay-laid.ensures) in
          (filled_more i _ _ _ _ before.0 (omega (arith, c.requires.fits.word_room)) laid.0, laid.1),
    )
