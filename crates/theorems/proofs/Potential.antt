-- Every step lowers the sum of the squared loads, by two at least; so a run rests where half that sum is within its step limit.
-- Assumes nothing.
use mathlib.Core.Path.{◌≡◌}
use mathlib.Core.Bool.{true, false}
use mathlib.Core.List.{List}
use mathlib.Core.Logic.{◌⊎◌, inl, inr}
use Prim.Native.Nat.{ℕ, ◌+◌, ◌*◌, ◌-◌, ◌/◌, ◌≤◌, ◌<◌}
use native.Mathlib.Omega.{arith}
use Rattle.order.proofs.Booleans.{bool_cases}
use Rattle.order.proofs.SumChanges.{squares-fall}
use Rattle.model.specs.Plan.{Plan, machines, block_count}
use Rattle.model.specs.Placement.{word_of, Feasible, share_of, load}
use Rattle.model.specs.Steps.{none, relocate, exchange, after_move, after_swap, after, is_step, next_step, run, potential, can_move, can_swap}
use Rattle.theory.specs.Steps.{Taken, none-taken, one_more}
use Rattle.theory.proofs.Placement.{bit-apart}
use Rattle.theory.proofs.Steps.{after_move-load-source, after_move-load-target, after_move-load-else, after_swap-load-source, after_swap-load-target, after_swap-load-else}
use Rattle.theory.proofs.StepsLocal.{can_move-lowers, can_swap-lowers}
use Rattle.theory.proofs.StepsNext.{next_step-admissible, next_step-feasible, runs, run-feasible}
use Rattle.theorems.specs.Potential.{StepLowers, RunRests}

module _ (p : Plan) (words : List ℕ) (m n i : ℕ) (ml : m < machines p) (nl : n < machines p) (il : i < block_count p) where
  move-lowers : can_move p words m n i ≡ true → potential p (after_move words m n i) + 2 ≤ potential p words
  unfolding potential
  move-lowers can =
      let told = can_move-lowers p words m n i ml nl il can in
      let on = told.0 in
      let off = told.1 in
      let source = after_move-load-source p words m n i on off ml nl il in
      let target = after_move-load-target p words m n i on off ml nl il in
      let lowers = told.2 in
      squares-fall (machines p) m n (share_of p words i) (load p words) (load p (after_move words m n i)) ml nl
      (bit-apart (word_of words i) m n on off) source target
      (λ k l am an. after_move-load-else p words m n i on off ml nl il k am an) lowers.0 (omega arith)

  swap-lowers : (j : ℕ) → j < block_count p → can_swap p words m n i j ≡ true
      → potential p (after_swap words m n i j) + 2 ≤ potential p words
  unfolding potential
  swap-lowers j jl can =
      let told = can_swap-lowers p words m n i j ml nl il jl can in
      let i-on = told.0 in
      let i-off = told.1 in
      let j-on = told.2 in
      let j-off = told.3 in
      let source = after_swap-load-source p words m n i j i-on i-off j-on j-off ml nl il jl in
      let target = after_swap-load-target p words m n i j i-on i-off j-on j-off ml nl il jl in
      let lowers = told.4 in
      squares-fall (machines p) m n (share_of p words i - share_of p words j) (load p words) (load p (after_swap words m n i j)) ml nl
      (bit-apart (word_of words i) m n i-on i-off) (omega arith) (omega arith)
      (λ k l am an. after_swap-load-else p words m n i j i-on i-off j-on j-off ml nl il jl k am an)
      (omega arith) (omega arith)

-- A step takes d, a share or the difference of two, above 0, from m to n, and n ends below where m was: L(n) + d < L(m). The two
-- squares change from L(m)² + L(n)² to (L(m) - d)² + (L(n) + d)², which is less by 2 × d × (L(m) - L(n) - d), so by 2 at least.
pub step-lowers : StepLowers
unfolding after
step-lowers p count words feasible none h = absurd h
step-lowers p count words feasible (relocate racks m n i) (ml, nl, il, can, across) =
    move-lowers p words m n i ml nl il can
step-lowers p count words feasible (exchange racks m n i j) (ml, nl, il, jl, can, across) =
    swap-lowers p words m n i ml nl il j jl can

module _ (p : Plan) (count : ℕ → ℕ) where
  next-lowers : (words : List ℕ) → Feasible p count words → is_step (next_step p words) ≡ true
      → potential p (after words (next_step p words)) + 2 ≤ potential p words
  next-lowers words f is = step-lowers p count words f (next_step p words) (next_step-admissible p words is)

  taken-lowers : {words later : List ℕ} {n : ℕ} → Taken p words n later → Feasible p count words
      → potential p later + 2 * n ≤ potential p words
  taken-lowers none-taken f = omega arith
  taken-lowers (one_more {words} e more) f =
      let one = next-lowers words f e in
      let rest = taken-lowers more (next_step-feasible p count words f) in
      omega arith

-- The sum falls by 2 at each of the steps of a run and is never below 0, so twice the steps are at most the first sum. A run that
-- does not rest has used its limit and has a step left, which would lower the sum by 2 once more: so its limit is below half the sum.
pub run-rests : RunRests
run-rests p count words feasible = record { few = few; rests = λ limit enough. rests limit enough (bool_cases (run p limit words).rested) }
  where
    few : (limit : ℕ) → 2 * (run p limit words).steps ≤ potential p words
    few limit = omega (arith, taken-lowers p count (runs p limit words).taken feasible)

    rests : (limit : ℕ) → potential p words / 2 ≤ limit
        → ((run p limit words).rested ≡ true) ⊎ ((run p limit words).rested ≡ false) → (run p limit words).rested ≡ true
    rests limit enough (inl e) = e
    rests limit enough (inr e) =
        let spent = (runs p limit words).spent e in
        let fallen = taken-lowers p count (runs p limit words).taken feasible in
        let all = spent.0 in
        let more = next-lowers p count (run p limit words).words (run-feasible p count words feasible limit) spent.1 in
        absurd (omega arith)
