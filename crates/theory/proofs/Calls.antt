-- Laws of the calls: how a call's outcome follows from the verdict and the code of its own checks, and that rows 12 to 16 and 18 pass
-- exactly the lawful placements with the chosen counts.
-- Assumes nothing.
use mathlib.Core.Path.{◌≡◌, refl, ap, sym, ◌∙◌}
use mathlib.Core.Bool.{Bool, true, not}
use mathlib.Core.List.{List}
use mathlib.Core.Logic.{◌↔◌, ◌⊎◌, inl, inr}
use Prim.Native.Nat.{ℕ, zero, suc, ◌<◌, ◌≤◌}
use native.Mathlib.Decide.{dec_lt}
use native.Mathlib.Omega.{arith}
use borrow.Author.Tests.{not-false}
use lib.Dec.{ltb, lit≤}
use lib.ListN.{length}
use Rattle.order.proofs.Booleans.{eqb-iff}
use Rattle.order.proofs.Extremes.{allb-iff}
use Rattle.model.specs.Plan.{Plan, block_count}
use Rattle.model.specs.Refusal.{refuse_if, check12, Verdict, refused, accepted}
use Rattle.model.specs.Replication.{chosen}
use Rattle.model.specs.Placement.{count_of, Feasible, all_within, all_spread, all_fit, all_apart}
use Rattle.model.specs.Calls.{OutcomeOver, refuse, unless, on_plan, all_counted, placement_refusal}
use Rattle.theory.specs.Calls.{call_refusal}
use Rattle.theory.specs.Refusal.{Valid}
use Rattle.theory.proofs.Refusal.{refuse_if-zero, refuse_if-all, check12-zero, check12-short, check12-enough}
use Rattle.theory.proofs.Replication.{chosen-counts}
use Rattle.theory.proofs.Placement.{feasible-length, all_within-iff, all_spread-iff, all_fit-iff, all_apart-iff}

-- ── unless ───────────────────────────────────────────────────────────────────────────────────────
module _ {I A : Type 0} (items : List I) where
  pub unless-none : (code : ℕ) (call : OutcomeOver I A) → code ≡ 0 → unless code items call ≡ call
  unfolding unless
  unless-none code call e = ap (λ (n : ℕ). unless n items call) e

  pub unless-some : (code n : ℕ) (call : OutcomeOver I A) → n ≡ code → 1 ≤ code → unless n items call ≡ refuse code items
  unfolding unless
  unless-some zero n call e l = absurd (omega arith)
  unless-some (suc code) n call e l = ap (λ (m : ℕ). unless m items call) e

-- ── call_refusal ──────────────────────────────────────────────────────────────────────────────────
pub call_refusal-accepted : (v : Verdict) (p : Plan) (rows : Plan → ℕ) → v ≡ accepted p → call_refusal v rows ≡ rows p
unfolding call_refusal
call_refusal-accepted v p rows e = ap (λ (w : Verdict). call_refusal w rows) e

pub call_refusal-refused : (v : Verdict) (code : ℕ) (rows : Plan → ℕ) → v ≡ refused code → call_refusal v rows ≡ code
unfolding call_refusal
call_refusal-refused v code rows e = ap (λ (w : Verdict). call_refusal w rows) e

-- where row 12 or an earlier one refuses, the later rows are not asked
pub call_refusal-short : (v : Verdict) (lent code : ℕ) (later : Plan → ℕ) → call_refusal v (λ p. check12 lent (block_count p) 0) ≡ code
    → 1 ≤ code → call_refusal v (λ p. check12 lent (block_count p) (later p)) ≡ code
unfolding call_refusal
call_refusal-short (refused n) lent code later e some = e
call_refusal-short (accepted p) lent code later e some = elim (dec_lt lent (block_count p)) [
  | yes l ↦ check12-short lent (block_count p) (later p) l ∙ sym (check12-short lent (block_count p) 0 l) ∙ e
  | no l ↦ absurd (let z = check12-enough lent (block_count p) 0 (omega arith) in omega arith)
]

-- ── on_plan ───────────────────────────────────────────────────────────────────────────────────────
-- a call is refused with the code of its checks, or made
module _ {I A : Type 0} (items : List I) (rows : Plan → ℕ) (call : Plan → OutcomeOver I A) where
  pub on_plan-verdict : (v : Verdict) (code : ℕ) → v ≡ refused code → on_plan v items rows call ≡ refuse code items
  unfolding on_plan
  on_plan-verdict v code e = ap (λ (w : Verdict). on_plan w items rows call) e

  pub on_plan-refused : (v : Verdict) (code : ℕ) → call_refusal v rows ≡ code → 1 ≤ code → on_plan v items rows call ≡ refuse code items
  unfolding on_plan call_refusal
  on_plan-refused (refused n) code e l = ap (λ (m : ℕ). refuse m items) e
  on_plan-refused (accepted p) code e l = unless-some items code (rows p) (call p) e l

  pub on_plan-made : (v : Verdict) (p : Plan) → v ≡ accepted p → rows p ≡ 0 → on_plan v items rows call ≡ call p
  unfolding on_plan
  on_plan-made v p e none = ap (λ (w : Verdict). on_plan w items rows call) e ∙ unless-none items (rows p) (call p) none

  -- A call that was refused, or made.
  abbrev pub Refuses : Verdict → Type 0
  Refuses v = (code : ℕ) × (on_plan v items rows call ≡ refuse code items)

  pub record Makes (v : Verdict) : Type 0 where
    pub plan : Plan
    pub accepts : v ≡ accepted plan
    pub passes : rows plan ≡ 0
    pub is : on_plan v items rows call ≡ call plan

  pub on_plan-cases : (v : Verdict) → Refuses v ⊎ Makes v
  unfolding on_plan unless
  on_plan-cases (refused code) = inl (code, refl)
  on_plan-cases (accepted p) = go (rows p) refl
    where
      go : (code : ℕ) → rows p ≡ code → Refuses (accepted p) ⊎ Makes (accepted p)
      go zero e = inr (record { plan = p; accepts = refl; passes = e; is = unless-none items (rows p) (call p) e })
      go (suc code) e = inl (suc code, unless-some items (suc code) (rows p) (call p) e (omega arith))

-- ── all_counted ───────────────────────────────────────────────────────────────────────────────────
all_counted-iff : (p : Plan) (words : List ℕ)
    → (all_counted p words ≡ true) ↔ ((i : ℕ) → i < block_count p → count_of p words i ≡ chosen p i)
unfolding all_counted
all_counted-iff p words = allb-iff (block_count p) _ _ (λ i. eqb-iff (count_of p words i) (chosen p i))

-- ── placement_refusal ─────────────────────────────────────────────────────────────────────────────
pub placement_refusal-le : (p : Plan) (words : List ℕ) → placement_refusal words p ≤ 18
unfolding placement_refusal check12
placement_refusal-le p words =
    row (ltb (length words) (block_count p)) 12 _ (lit≤ tt)
    (row (not (all_within p words)) 13 _ (lit≤ tt)
    (row (not (all_counted p words)) 14 _ (lit≤ tt)
    (row (not (all_spread p words)) 15 _ (lit≤ tt)
    (row (not (all_fit p words)) 16 _ (lit≤ tt)
    (row (not (all_apart p words)) 18 0 (lit≤ tt) (lit≤ tt))))))
  where
    row : (t : Bool) (code later : ℕ) → code ≤ 18 → later ≤ 18 → refuse_if t code later ≤ 18
    row = refuse_if-all (λ n. n ≤ 18)

module _ (p : Plan) (valid : Valid p) (words : List ℕ) where
  pub placement_refusal-passes : Feasible p (chosen p) words → placement_refusal words p ≡ 0
  unfolding placement_refusal
  placement_refusal-passes f =
      rw (
        check12-enough (length words) (block_count p) _ (feasible-length p valid (chosen p) words f),
        (all_within-iff p words).1 f.within,
        (all_counted-iff p words).1 f.counted,
        (all_spread-iff p words).1 f.spread,
        (all_fit-iff p words).1 f.fits,
        (all_apart-iff p words).1 f.apart,
      )

  pub placement_refusal-feasible : placement_refusal words p ≡ 0 → Feasible p (chosen p) words
  unfolding placement_refusal
  placement_refusal-feasible e =
      let z12 = check12-zero _ _ _ e in
      let z13 = refuse_if-zero (not (all_within p words)) 12 _ z12.1 in
      let z14 = refuse_if-zero (not (all_counted p words)) 13 _ z13.1 in
      let z15 = refuse_if-zero (not (all_spread p words)) 14 _ z14.1 in
      let z16 = refuse_if-zero (not (all_fit p words)) 15 _ z15.1 in
      let z18 = refuse_if-zero (not (all_apart p words)) 17 _ z16.1 in
      record {
        counts = (chosen-counts p valid).feasible;
        within = (all_within-iff p words).0 (not-false _ z13.0);
        counted = (all_counted-iff p words).0 (not-false _ z14.0);
        spread = (all_spread-iff p words).0 (not-false _ z15.0);
        fits = (all_fit-iff p words).0 (not-false _ z16.0);
        apart = (all_apart-iff p words).0 (not-false _ z18.0);
      }
