-- Row 23: what it leaves of a version 4 plan, and what it says of one that it turns back.
-- Assumes nothing.
use mathlib.Core.Path.{◌≡◌, refl, ap, sym, ◌∙◌}
use mathlib.Core.Bool.{◌&&◌}
use mathlib.Core.List.{List}
use mathlib.Core.Logic.{inl, inr, ⊎_elim}
use Prim.Native.Nat.{ℕ, ◌<◌, ◌≤◌}
use native.Mathlib.Nat.{le-min}
use native.Mathlib.Decide.{dec_lt}
use native.Mathlib.Omega.{arith}
use borrow.Author.Tests.{lt-ltb, le-ltb}
use lib.Dec.{leb, ltb}
use Rattle.order.specs.Sum.{sum}
use Rattle.order.specs.Table.{table, filled}
use Rattle.order.specs.Search.{first_up, least, allb, largest}
use Rattle.model.specs.Plan.{Plan, places, min_total, max_replicas, upper, is_paired, pairs_back, pairs_next, field, format_of, block_in, version_in, plan_in}
use Rattle.model.specs.Refusal.{check1, check2, check3, check4, check22, check5, check6, check7, check8, check9, alike, check17, check23, check10, check11, check12, block_refusal, blocks_refusal, pair_refusal, pairs_refusal, plan_refusal, refusal, judge}
use Rattle.model.specs.Replication.{copy_limit, share, largest_share, need, reachable, figure, chosen}
use Rattle.model.specs.Calls.{unless, on_plan, counts_call}
use Rattle.theory.specs.Refusal.{PastRow17}
use Rattle.theory.proofs.Refusal.{refuse_if-all, check23-above, check23-early, check23-usable, total_refusal, refusal-shaped, refusal-budget, accepted-laws}
use Rattle.theorems.specs.Exact.{Infeasible}
use Rattle.theorems.specs.Budgets.{ElevenIdle, Budgets, plan-whole, wide-whole, wide-budgeted, BudgetExamples}
use Rattle.theorems.proofs.Exact.{total-cases, shaped-feasible}
use Rattle.theorems.proofs.Trials.{figure-of}

-- ── ElevenIdle ───────────────────────────────────────────────────────────────────────────────────
-- a total within a budget that is within the places passes row 11 where it passes row 10
rows-idle : (room budget total later : ℕ) → budget ≤ room → check10 budget total (check11 room total later) ≡ check10 budget total later
unfolding check10 check11
rows-idle room budget total later l = elim (dec_lt budget total) [
  | yes over ↦ rw (lt-ltb budget total over)
  | no fits ↦ rw (le-ltb room total (omega arith))
]

pub eleven-idle : ElevenIdle
eleven-idle version room budget total later late = elim (dec_lt room budget) [
  | yes above ↦ check23-above version room budget _ late above ∙ sym (check23-above version room budget _ late above)
  | no within ↦ ap (check23 version room budget) (rows-idle room budget total later (omega arith))
]

-- ── Budgets ──────────────────────────────────────────────────────────────────────────────────────
-- rows 10 and 11 do not give 23
total-not23 : (p : Plan) → total_refusal p ≡ 23 → ⊥
total-not23 p e = ⊎_elim (λ over. ⊎_elim (λ ten. omega (arith, ten, e)) (λ eleven. omega (arith, eleven, e)) over.0) (λ none. omega (arith, none, e)) (total-cases p)

module _ (bytes : List ℕ) where
  row23-above : refusal bytes ≡ 23 → (4 ≤ version_in bytes) × (places (plan_in bytes) < (plan_in bytes).budget)
  unfolding plan_in
  row23-above e =
      let p = plan_in bytes in
      let is = sym (refusal-budget bytes (inl e)) ∙ e in
      elim (dec_lt (version_in bytes) 4) [
        | yes early ↦ absurd (total-not23 p (sym (check23-early p.version (places p) p.budget _ early) ∙ is))
        | no late ↦ elim (dec_lt (places p) p.budget) [
          | yes above ↦ (omega arith, above)
          | no within ↦ absurd (total-not23 p (sym (check23-usable p.version (places p) p.budget _ (omega arith)) ∙ is))
        ]
      ]

  row23-given : PastRow17 (refusal bytes) → (4 ≤ version_in bytes) × (places (plan_in bytes) < (plan_in bytes).budget) → refusal bytes ≡ 23
  unfolding plan_in
  row23-given past unusable = refusal-budget bytes past ∙ check23-above _ _ _ _ unusable.0 unusable.1

  -- its least copies are within the budget, too, which is above the places
  row23-feasible : refusal bytes ≡ 23 → min_total (plan_in bytes) ≤ places (plan_in bytes) → Infeasible (plan_in bytes) → ⊥
  unfolding copy_limit
  row23-feasible e room none =
      let p = plan_in bytes in
      let above = (row23-above e).1 in
      none _ _ (shaped-feasible p (refusal-shaped bytes (inl e)) (le-min (omega arith) room))

  eleven-never : 4 ≤ version_in bytes → refusal bytes ≡ 11 → ⊥
  unfolding plan_in check23 check10
  eleven-never late e =
      let p = plan_in bytes in
      let idle = eleven-idle p.version (places p) p.budget (min_total p) 0 late in
      let is = refusal-budget bytes (inr (inr (inl e))) ∙ idle in
      let other = refuse_if-all (λ n. n ≡ 11 → ⊥) (leb 4 p.version && ltb (places p) p.budget) 23 _ (λ h. omega (arith, h)) (refuse_if-all (λ n. n ≡ 11 → ⊥) (ltb p.budget (min_total p)) 10 0 (λ h. omega (arith, h)) (λ h. omega (arith, h))) in
      other (sym is ∙ e)

pub budgets : Budgets
unfolding copy_limit
budgets bytes =
    record {
      row23-exact = λ past. (row23-above bytes, row23-given bytes past);
      row23-open = row23-feasible bytes;
      never-eleven = eleven-never bytes;
      whole = λ p e late. let usable = (accepted-laws bytes p e).valid.budget-usable late in omega arith;
    }

-- ── BudgetExamples ───────────────────────────────────────────────────────────────────────────────
wide-figure : figure (plan_in (wide-budgeted 3)) ≡ 10080
unfolding refusal check1 check2 check3 check4 check22 check5 check6 check7 plan_refusal blocks_refusal block_refusal check8 check9 pairs_refusal pair_refusal check17 alike check23 check10 check11 plan_in block_in format_of field upper max_replicas is_paired pairs_back pairs_next min_total reachable need share copy_limit sum table least allb first_up wide-whole
wide-figure = figure-of (wide-budgeted 3) 10079 refl refl refl

pub budget-examples : BudgetExamples
unfolding counts_call on_plan unless judge refusal check1 check2 check3 check4 check22 check5 check6 check7 plan_refusal blocks_refusal block_refusal check8 check9 pairs_refusal pair_refusal check17 alike check23 check10 check11 check12 plan_in block_in format_of field upper max_replicas is_paired pairs_back pairs_next min_total chosen largest_share largest filled need share copy_limit sum table least allb first_up plan-whole wide-whole
budget-examples =
    record {
      at = refl;
      one-above = refl;
      far-above = refl;
      after-seventeen = refl;
      before-ten = refl;
      ten = refl;
      before-eleven = refl;
      wide-eleven = refl;
      wide-ten = refl;
      wide-above = refl;
      wide-counts = rw wide-figure refl;
    }
