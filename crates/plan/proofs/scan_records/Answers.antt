-- `plan::scan_records` meets its contract. The loop's invariant: no block passed is refused, and the total is their least copies'.
-- Assumes nothing.
use mathlib.Core.Path.{◌≡◌, refl, ap, ap₂, sym, ◌∙◌}
use mathlib.Core.List.{List}
use Prim.Native.Nat.{ℕ, ◌+◌, ◌<◌}
use native.Mathlib.Omega.{arith}
use borrow.Author.Tests.{lt-ltb}
use borrow.Author.Count.{below_none, below_more}
use Rattle.order.proofs.Sums.{sum-zero, sum_step}
use Rattle.order.proofs.Searches.{first-none, first-at}
use Rattle.std.proofs.lemmas.Result.{err_from_is_err_and}
use Rattle.refusal.proofs.Laws.{number_of-pos}
use Rattle.model.specs.Plan.{Plan, Block, machines, block_count, block_of, upper, min_total, plan_in}
use Rattle.model.specs.Refusal.{is_refusal, check8, check9, block_refusal, blocks_refusal}
use Rattle.cluster.specs.Cluster.{machines_in}
use Rattle.cluster.specs.Blocks.{link_of}
use Rattle.header.specs.declared.Header.{Header}
use Rattle.header.specs.Header.{PassedAs}
use Rattle.records.proofs.Laws.{file-block, file-of}
use Rattle.plan.proofs.Laws.{passed-of, passed-file, plan_in-blocks, plan_in-version, plan_in-domains, plan_in-machines}
use Rattle.plan.proofs.scan_records.Goals as goal

-- the code of the block at hand, as the model has it
module _ (bytes : List ℕ) (h : Header) (passed : PassedAs bytes h) (i : ℕ) where
  code_is : (least spread linked most code : ℕ)
      → least ≡ (block_of (plan_in bytes) i).min_replicas
      → spread ≡ (block_of (plan_in bytes) i).min_domains
      → linked ≡ link_of (plan_in bytes) i
      → ((p : Plan) (k : ℕ) → h.version ≡ p.version → machines_in h.cluster ≡ machines p → linked ≡ link_of p k → most ≡ upper p k)
      → code ≡ check8 most least (check9 h.cluster.feeds least spread 0)
      → block_refusal (plan_in bytes) i ≡ code
  unfolding block_refusal
  code_is least spread linked most code is-least is-spread is-link is-most is-code =
      let of = passed-of bytes h passed in
      let upper-is = is-most (plan_in bytes) i (plan_in-version bytes h of) (plan_in-machines bytes h of) is-link in
      rw (← upper-is, ← (plan_in-domains bytes h of), ← is-least, ← is-spread, is-code)

pub format_in-requires : goal.format_in-requires
format_in-requires c = omega (arith, c.requires.length-is)

pub file_records-records-requires : goal.file_records-records-requires
file_records-records-requires c = passed-file _ _ c.requires _ c.format_in.ensures

pub loop-i-init : goal.loop-i-init
loop-i-init c = (sym (sum-zero _), omega arith, below_none _)

pub returns-in_err-check_block : goal.returns-in_err-check_block
unfolding blocks_refusal
returns-in_err-check_block c =
    let out = err_from_is_err_and c.from_residual.result c.from_residual.ensures.1 in
    let p = plan_in c.args.bytes.now in
    let r = c.file_records-records in
    let block = file-block r.result r.ensures.3 _ r.ensures.0 c.loop-i.i (omega arith) in
    let within : c.loop-i.i < block_count p = rw (← (plan_in-blocks _ _ (passed-of _ _ c.requires))) c.loop-i-test.true in
    let code = code_is _ _ c.requires _ _ _ _ _ _
    (c.min_replicas-least.ensures.0 ∙ ap (λ (b : Block). b.min_replicas) block)
    (c.min_domains-spread.ensures.0 ∙ ap (λ (b : Block). b.min_domains) block)
    (c.link.ensures.0 p (file-of r.result r.ensures.3 _ r.ensures.0) within)
    c.upper_count-most.ensures.0 c.in_err-check_block.ensures in
    let some = number_of-pos c.in_err-check_block.field-0.0 in
    rw (out.1, out.2) (
    record {
      is =
          first-at is_refusal 0 refl (block_refusal p) (block_count p) c.loop-i.i within c.loop-i.invariant.2
          (rw code (lt-ltb 0 _ some))
          ∙ code;
      some = some;
    }
    )

pub loop-i-preserved : goal.loop-i-preserved
loop-i-preserved c =
    let i = c.loop-i.i in
    let p = plan_in c.args.bytes.now in
    let r = c.file_records-records in
    let block = file-block r.result r.ensures.3 _ r.ensures.0 i (omega arith) in
    let within : i < block_count p = rw (← (plan_in-blocks _ _ (passed-of _ _ c.requires))) c.loop-i-test.true in
    let least = c.min_replicas-least.ensures.0 ∙ ap (λ (b : Block). b.min_replicas) block in
    let code = code_is _ _ c.requires _ _ _ _ _ _ least
    (c.min_domains-spread.ensures.0 ∙ ap (λ (b : Block). b.min_domains) block)
    (c.link.ensures.0 p (file-of r.result r.ensures.3 _ r.ensures.0) within)
    c.upper_count-most.ensures.0 c.in_ok-check_block.ensures in (
      ap₂ ◌+◌ c.loop-i.invariant.0 least ∙ sym (sum_step i _),
      omega arith,
      below_more _ i c.loop-i.invariant.2 (ap is_refusal code),
    )

pub returns : goal.returns
unfolding blocks_refusal min_total
returns c =
    let p = plan_in c.args.bytes.now in
    let passed : c.loop-i.i ≡ block_count p = rw (← (plan_in-blocks _ _ (passed-of _ _ c.requires))) (omega arith) in
    record {
      none = first-none is_refusal 0 refl (block_refusal p) (block_count p) (rw passed at c.loop-i.invariant.2);
      is = rw passed at c.loop-i.invariant.0;
    }
