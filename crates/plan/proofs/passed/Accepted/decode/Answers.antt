-- `plan::Accepted::decode` meets its contract. The loop's invariant: the demands are filled as far as the loop has come, and these blocks'
-- popularities fit.
-- Assumes nothing.
use mathlib.Core.Path.{◌≡◌, refl, ap, ◌∙◌}
use mathlib.Core.List.{List}
use Prim.Native.Nat.{ℕ, ◌<◌, ◌≤◌}
use native.Mathlib.Omega.{arith}
use borrow.Author.Count.{below_none, below_more}
use lib.ListN.{length, length-set}
use Rattle.order.proofs.Tables.{filled_none, filled_more}
use Rattle.model.specs.Plan.{Plan, Block, machines, block_count, block_of, upper, plan_in}
use Rattle.theory.specs.Widths.{popularity_bound}
use Rattle.theory.proofs.Plan.{upper-max}
use Rattle.cluster.specs.declared.Cluster.{Cluster}
use Rattle.cluster.specs.Cluster.{machines_in}
use Rattle.cluster.specs.Blocks.{link_of, demand_word, demand_of, DemandInRange, Linked, DemandsFit, DemandsOf}
use Rattle.cluster.proofs.Laws.{cluster-range, cluster-blocks, cluster-block, linked-mate, demand_of-popularity, demand_of-least, demand_of-most, demand_of-link}
use Rattle.records.proofs.Laws.{file-count, file-block, file-of}
use Rattle.plan.specs.declared.passed.Accepted.{Accepted}
use Rattle.plan.proofs.Laws.{accepted-header, accepted-of, plan_in-version, plan_in-machines, demands-of}
use Rattle.plan.proofs.passed.Accepted.decode.Goals as goal

-- the demands of a plan whose popularities fit are in their ranges
demands-fit : (p : Plan) (c : Cluster) (demands : List ℕ) → DemandsOf p c demands → c.blocks ≤ length demands
    → ((i : ℕ) → i < c.blocks → (block_of p i).popularity < popularity_bound) → DemandsFit c demands
demands-fit p c demands of room narrow =
    record {
      in-range = cluster-range p c of.cluster;
      room = room;
      each = λ i l. rw (of.are i l) (each i l);
      linked = λ i l. rw (of.are i l) (linked i l);
    }
  where
    linked : (i : ℕ) → i < c.blocks → Linked c.blocks (demand_of p i) i
    linked i l =
        let count = cluster-blocks p c of.cluster in
        rw count (linked-mate p (demand_of p i) i (demand_of-link p i) of.cluster.valid.shaped (rw count at l))

    each : (i : ℕ) → i < c.blocks → DemandInRange (demand_of p i)
    each i l =
        let b = cluster-block p c of.cluster i l in
        record {
          popularity-narrow = rw (demand_of-popularity p i b) (narrow i l);
          least-pos = rw (demand_of-least p i b) b.min-pos;
          least-most = rw (demand_of-least p i b, demand_of-most p i b) b.min-upper;
          most-max = rw (demand_of-most p i b) (upper-max p i);
        }

-- the demand of the block at hand, as the model has it
module _ (a : Accepted) (i : ℕ) where
  demand-is : (popularity least spread linked most demand : ℕ)
      → popularity ≡ (block_of (plan_in a.records.bytes.now) i).popularity
      → least ≡ (block_of (plan_in a.records.bytes.now) i).min_replicas
      → spread ≡ (block_of (plan_in a.records.bytes.now) i).min_domains
      → linked ≡ link_of (plan_in a.records.bytes.now) i
      → ((p : Plan) (k : ℕ) → a.header.version ≡ p.version → machines_in a.header.cluster ≡ machines p → linked ≡ link_of p k → most ≡ upper p k)
      → demand ≡ demand_word popularity least spread most linked
      → demand ≡ demand_of (plan_in a.records.bytes.now) i
  unfolding demand_of
  demand-is popularity least spread linked most demand is-popular is-least is-spread is-link is-most is-demand =
      let of = accepted-of a.records.bytes.now a.header a.accepts in
      let upper-is = is-most (plan_in a.records.bytes.now) i (plan_in-version _ _ of) (plan_in-machines _ _ of) is-link in
      rw (← is-popular, ← is-least, ← is-spread, ← upper-is, ← is-link) is-demand

pub loop-i-init : goal.loop-i-init
loop-i-init c = (filled_none _ _, below_none _, refl)

pub upper_count-requires : goal.upper_count-requires
upper_count-requires c =
    (accepted-of _ _ c.args.self.now.accepts).in-range

pub loop-i-preserved : goal.loop-i-preserved
loop-i-preserved c =
    let p = plan_in c.args.self.now.records.bytes.now in
    let r = c.reread-records in
    let of = r.ensures.2 in
    let block = file-block r.result of _ r.ensures.0 c.loop-i.i c.loop-i-test.true in
    let within : c.loop-i.i < block_count p = rw (← (file-count r.result of _ r.ensures.0)) c.loop-i-test.true in
    let popular = c.popularity.ensures.0 ∙ ap (λ (b : Block). b.popularity) block in
    let demand = demand-is c.args.self.now _ _ _ _ _ _ _ popular
    (c.min_replicas.ensures.0 ∙ ap (λ (b : Block). b.min_replicas) block)
    (c.min_domains.ensures.0 ∙ ap (λ (b : Block). b.min_domains) block)
    (c.link-linked.ensures.0 p (file-of r.result of _ r.ensures.0) within) c.upper_count.ensures.0 c.demand.ensures in (
      filled_more c.loop-i.i _ _ _ _ c.loop-i.invariant.0 (omega arith) demand,
      below_more _ c.loop-i.i c.loop-i.invariant.1 (rw popular at c.popularity.ensures.1),
      simp length-set c.loop-i.invariant.2,
    )

pub shape_of-demands : goal.shape_of-demands
shape_of-demands c = c.loop-i.invariant.2

pub returns : goal.returns
returns c =
    let laws = accepted-header _ _ c.args.self.now.accepts in
    let all : c.loop-i.i ≡ c.args.self.now.header.cluster.blocks = omega arith in
    let inv = rw (all, ← laws.held) at c.loop-i.invariant in
    let of = demands-of _ _ _ _ laws.cluster-of inv.0 in
    record { are = inv.0; fit = demands-fit _ _ _ of (omega arith) inv.1 }
