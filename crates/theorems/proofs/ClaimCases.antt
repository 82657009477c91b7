-- Demand 3, the claim's cases: a list of calls that begins with the first placement, and the bounds at rest written out.
-- Assumes nothing.
use mathlib.Core.Path.{◌≡◌, refl, sym, ◌∙◌}
use mathlib.Core.List.{List}
use Prim.Native.Nat.{ℕ, zero, suc}
use native.Mathlib.Omega.{arith}
use Rattle.order.specs.Table.{filled}
use Rattle.order.proofs.Tables.{get_d-table, get_d-filled}
use Rattle.model.specs.Plan.{Plan, block_count}
use Rattle.model.specs.Refusal.{Verdict, refused, accepted, judge}
use Rattle.model.specs.Replication.{chosen}
use Rattle.model.specs.Placement.{Feasible, first_word, first_placement}
use Rattle.model.specs.Calls.{answered, Outcome, on_plan, unless, buffer_refusal, first_call}
use Rattle.model.specs.Claims.{Bounded}
use Rattle.theory.specs.Refusal.{Valid}
use Rattle.theory.proofs.Refusal.{accepted-laws}
use Rattle.theory.proofs.PlacementFirst.{first_placement-feasible}
use Rattle.theorems.specs.Claim.{FirstClaim, RestAfter, ClaimOneSpread, ClaimLargerSpreads}
use Rattle.theorems.proofs.Agreement.{agree-feasible}
use Rattle.theorems.proofs.Claim.{claim}

-- where the first placement is made, the plan is accepted and the buffer long enough
first_made : (bytes lent : List ℕ) (blocks : ℕ) → (first_call bytes lent).answer ≡ answered blocks
    → (p : Plan) × (judge bytes ≡ accepted p) × ((first_call bytes lent).items ≡ filled (block_count p) (first_word p) lent)
unfolding first_call on_plan unless
first_made bytes lent blocks = by-verdict (judge bytes) refl
  where
    made : Plan → Outcome ℕ
    made p = record { answer = answered (block_count p); items = filled (block_count p) (first_word p) lent }

    by_code : (p : Plan) (n : ℕ) → (unless n lent (made p)).answer ≡ answered blocks
        → (unless n lent (made p)).items ≡ filled (block_count p) (first_word p) lent
    by_code p zero e = refl
    by_code p (suc n) e = absurd (let z : ◌≡◌ {A = ℕ} 0 1 = cc in omega arith)

    by-verdict : (v : Verdict) → judge bytes ≡ v → (on_plan v lent (buffer_refusal lent) made).answer ≡ answered blocks
        → (p : Plan) × (judge bytes ≡ accepted p) × ((on_plan v lent (buffer_refusal lent) made).items ≡ filled (block_count p) (first_word p) lent)
    by-verdict (refused n) reads e = absurd (let z : ◌≡◌ {A = ℕ} 0 1 = cc in omega arith)
    by-verdict (accepted p) reads e = (p, reads, by_code p (buffer_refusal lent p) e)

-- the first placement, in any buffer
filled-feasible : (p : Plan) → Valid p → (lent : List ℕ) → Feasible p (chosen p) (filled (block_count p) (first_word p) lent)
unfolding first_placement
filled-feasible p valid lent =
    agree-feasible p valid.shaped (first_placement p) (filled (block_count p) (first_word p) lent)
    (λ i l. get_d-table (block_count p) (first_word p) i 0 l ∙ sym (get_d-filled (block_count p) (first_word p) lent i 0 l))
    (chosen p) (first_placement-feasible p valid)

-- so a list of calls may begin with it
pub first-claim : FirstClaim
first-claim bytes lent blocks e =
    let made = first_made bytes lent blocks e in
    let p = made.0 in (
      p,
      made.1,
      claim bytes p made.1 (first_call bytes lent).items
          (rw made.2 (filled-feasible p (accepted-laws bytes p made.1).valid lent)),
    )

-- the bounds, written out
at-end : (p : Plan) (after : List ℕ) → RestAfter p after → Bounded p after
at-end p after rest =
    let held = claim rest.bytes p rest.reads rest.words rest.feasible rest.calls rest.allowed in
    rw rest.after_is (held.bounded (rw rest.after_is at rest.rests))

pub claim-one-spread : ClaimOneSpread
claim-one-spread p after rest = (at-end p after rest).one-spread

pub claim-larger-spreads : ClaimLargerSpreads
claim-larger-spreads p after rest = (at-end p after rest).larger-spreads
