-- The calls go by the whole order of the checks: rows that are handed what the later ones say can be parted anywhere. It passes exactly the
-- lawful placements.
-- Assumes nothing.
use mathlib.Core.Path.{◌≡◌, refl, ap, ap₂, sym, ◌∙◌}
use mathlib.Core.Bool.{Bool, true, false, not, ◌&&◌, ◌||◌}
use Prim.Native.Nat.{ℕ, zero, suc, ◌*◌, ◌%◌}
use lib.Dec.{leb, ltb, eqb}
use lib.ListN.{length}
use Rattle.model.specs.Plan.{Plan, places, min_total, common_length, latest_version, mark_in, version_in, racks_in, rack_size_in, feeds_in, capacity_in, block_count_in, format_in, header_length, record_at, plan_in}
use Rattle.model.specs.Refusal.{refuse_if, or_else, mark, max_machines, max_capacity, max_blocks, blocks_refusal, pairs_refusal, check1, check2, check3, check4, check22, check5, check6, check7, check23, check10, check11, plan_refusal, refusal, verdict, judge}
use Rattle.model.specs.Calls.{unless, on_plan, placement_refusal, on_placement}
use Rattle.model.specs.Checks.{checks}
use Rattle.theory.proofs.Refusal.{verdict-accepted, accepted-laws}
use Rattle.theory.proofs.Placement.{feasible-length}
use Rattle.theory.proofs.Calls.{placement_refusal-passes, placement_refusal-feasible}
use Rattle.theorems.specs.Checks.{PlanRowsFirst, CallsInOrder, PassedLawful, LawfulLent}

row : (t : Bool) (code a b x : ℕ) → b ≡ or_else a x → refuse_if t (suc code) b ≡ or_else (refuse_if t (suc code) a) x
row true code a b x e = refl
row false code a b x e = e

part : (found a b x : ℕ) → b ≡ or_else a x → or_else found b ≡ or_else (or_else found a) x
part zero a b x e = e
part (suc found) a b x e = refl

pub plan-rows-first : PlanRowsFirst
unfolding checks refusal plan_refusal placement_refusal check1 check2 check3 check4 check22 check5 check6 check7 check23 check10 check11
plan-rows-first bytes words =
    let r = racks_in bytes in
    let s = rack_size_in bytes in
    let f = feeds_in bytes in
    let c = capacity_in bytes in
    let b = block_count_in bytes in
    let p = plan_in bytes in
    let x = placement_refusal words p in
    row (ltb (length bytes) common_length) 0 _ _ x
    (row (not (eqb (mark_in bytes) mark)) 1 _ _ x
    (row (eqb (version_in bytes) 0 || ltb latest_version (version_in bytes)) 2 _ _ x
    (row (eqb r 0 || eqb s 0 || ltb max_machines (r * s)) 3 _ _ x
    (row (eqb f 0 || not (eqb (r % f) 0)) 21 _ _ x
    (row (eqb c 0 || ltb max_capacity c) 4 _ _ x
    (row (leb (header_length (format_in bytes)) (length bytes) && ltb max_blocks b) 5 _ _ x
    (row (not (eqb (length bytes) (record_at (format_in bytes) b))) 6 _ _ x
    (part (blocks_refusal p) _ _ x
    (part (pairs_refusal p) _ _ x
    (row (leb 4 p.version && ltb (places p) p.budget) 22 _ _ x
    (row (ltb p.budget (min_total p)) 9 _ _ x
    (row (ltb (places p) (min_total p)) 10 0 x x refl))))))))))))

pub calls-in-order : CallsInOrder
unfolding on_placement on_plan judge unless
calls-in-order A bytes words call = go (refusal bytes) ∙ ap (λ (code : ℕ). unless code words (call p)) (sym (plan-rows-first bytes words))
  where
    p : Plan
    p = plan_in bytes

    go : (code : ℕ) → on_plan (verdict code p) words (placement_refusal words) call ≡ unless (or_else code (placement_refusal words p)) words (call p)
    go zero = refl
    go (suc code) = refl

pub lawful-lent : LawfulLent
lawful-lent bytes p reads = feasible-length p (accepted-laws bytes p reads).valid

-- no row of the plan holds, so the placement's rows decide
pub passed-lawful : PassedLawful
unfolding judge
passed-lawful bytes p reads words =
    let z = verdict-accepted (refusal bytes) (plan_in bytes) p reads in
    let valid = (accepted-laws bytes p reads).valid in
    let rows : checks bytes words ≡ placement_refusal words p
    = plan-rows-first bytes words ∙ ap₂ (λ (code : ℕ) (q : Plan). or_else code (placement_refusal words q)) z.0 z.1 in (
      λ passes. placement_refusal-feasible p valid words (sym rows ∙ passes),
      λ lawful. rows ∙ placement_refusal-passes p valid words lawful,
    )
