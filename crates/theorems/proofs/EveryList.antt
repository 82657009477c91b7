-- A call that gets the plan's own bytes has B words, or is refused for having fewer; a call that gets refused bytes is refused.
-- Assumes nothing.
use mathlib.Core.Path.{◌≡◌, ◌∙◌}
use mathlib.Core.List.{List, [], ◌∷◌}
use mathlib.Core.Logic.{◌⊎◌, inl, inr}
use Prim.Native.Nat.{ℕ, ◌<◌}
use native.Mathlib.Decide.{dec_le}
use native.Mathlib.Nat.{min-le_left}
use native.Mathlib.Omega.{arith}
use lib.ListN.{length, take, length-take}
use Rattle.model.specs.Plan.{Plan, block_count}
use Rattle.model.specs.Refusal.{refused, accepted, judge}
use Rattle.model.specs.Calls.{Outcome, refuse, on_placement, placement_refusal, check_call, step_call, run_call}
use Rattle.model.specs.Claims.{Request, ask_check, ask_step, ask_run, Call, refused_by, respond, does, Gets, Refuses, Allowed}
use Rattle.theory.proofs.Calls.{call_refusal-accepted, on_plan-verdict, on_plan-refused}
use Rattle.theory.proofs.Refusal.{check12-short}
use Rattle.theorems.specs.Claim.{OwnOrRefused, EveryList}

-- every request is refused where its placement is
respond-refuses : (request : Request) (bytes words : List ℕ) (code : ℕ)
    → ((A : Type 0) (call : Plan → Outcome A) → on_placement bytes words call ≡ refuse code words)
    → (respond request bytes words).reply ≡ refused_by code
unfolding respond check_call step_call run_call
respond-refuses ask_check bytes words code e = rw (e _ _)
respond-refuses ask_step bytes words code e = rw (e _ _)
respond-refuses (ask_run limit) bytes words code e = rw (e _ _)

-- refused bytes, with any words
bytes-refused : (call : Call) (words : List ℕ) (code : ℕ) → judge call.bytes ≡ refused code → Refuses call words
unfolding does on_placement
bytes-refused call words code refuses = (
  code,
  respond-refuses call.request call.bytes (take call.lent words) code
      (λ A made. on_plan-verdict _ _ made (judge call.bytes) code refuses),
)

module _ (bytes : List ℕ) (p : Plan) (reads : judge bytes ≡ accepted p) where
  -- the plan's bytes, with fewer than B words
  short-refused : (call : Call) (words : List ℕ) → call.bytes ≡ bytes → call.lent < block_count p → Refuses call words
  unfolding does on_placement placement_refusal
  short-refused call words own short = (
    12,
    respond-refuses call.request call.bytes (take call.lent words) 12
        (λ A made. on_plan-refused _ _ made (judge call.bytes) 12 (call_refusal-accepted (judge call.bytes) p _ (rw own reads) ∙ code_is) (omega arith)),
  )
    where
      code_is : placement_refusal (take call.lent words) p ≡ 12
      code_is =
          check12-short _ _ _ (rw (length-take call.lent words) (omega (arith, min-le_left call.lent (length words))))

  allowed-call : (call : Call) (words : List ℕ) → (call.bytes ≡ bytes) ⊎ ((code : ℕ) × (judge call.bytes ≡ refused code))
      → Gets bytes (block_count p) call ⊎ Refuses call words
  allowed-call call words (inl own) =
      elim (dec_le (block_count p) call.lent) [
        | yes l ↦ inl (own, l)
        | no l ↦ inr (short-refused call words own (omega arith))
      ]
  allowed-call call words (inr (code, refuses)) = inr (bytes-refused call words code refuses)

  allowed_all : (calls : List Call) → OwnOrRefused bytes calls → (words : List ℕ) → Allowed bytes (block_count p) calls words
  unfolding OwnOrRefused Allowed
  allowed_all [] each words = tt
  allowed_all (call ∷ calls) each words = (allowed-call call words each.0, allowed_all calls each.1 _)

pub every-list : EveryList
every-list bytes p reads calls each words = allowed_all bytes p reads calls each words
