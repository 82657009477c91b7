-- `plan::Accepted::mate` meets its contract: the link of the block's record leads to its partner.
-- Assumes nothing.
use mathlib.Core.Path.{◌≡◌}
use Prim.Native.Nat.{ℕ, ◌<◌}
use native.Mathlib.Omega.{arith}
use Rattle.model.specs.Plan.{block_count, plan_in}
use Rattle.cluster.specs.Blocks.{link_of}
use Rattle.cluster.proofs.Laws.{link_of-mate}
use Rattle.records.specs.Records.{RecordsOf}
use Rattle.records.proofs.Laws.{records-count, records-of}
use Rattle.header.specs.Format.{as_format}
use Rattle.plan.specs.declared.passed.Accepted.{Accepted}
use Rattle.plan.proofs.Laws.{accepted-of, accepted-records}
use Rattle.plan.proofs.passed.Accepted.mate.Goals as goal

-- the link that was read is the plan's
link-is : (a : Accepted) (i linked : ℕ) → i < a.header.cluster.blocks
    → ((p : _) → RecordsOf p (as_format a.records.format) a.records.bytes.now → i < block_count p → linked ≡ link_of p i)
    → linked ≡ link_of (plan_in a.records.bytes.now) i
link-is a i linked l is =
    let of = accepted-records a in
    is (plan_in a.records.bytes.now) (records-of a.records of) (rw (← (records-count a.records of), a.blocks_are) l)

pub overflow_sub-result : goal.overflow_sub-result
overflow_sub-result c =
    rw (link-is c.args.self.now _ _ c.requires c.link.ensures.0) (link_of-mate _ _).0

pub returns : goal.returns
returns c = (
  rw ((accepted-of _ _ c.args.self.now.accepts).held, link-is c.args.self.now _ _ c.requires c.link.ensures.0) (link_of-mate _ _).1,
  omega (arith, c.link.ensures.1, c.args.self.now.records.blocks_max),
)
