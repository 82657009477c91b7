-- A feasible placement is at rest exactly if it is settled with no slack.
-- Assumes nothing.
use mathlib.Core.Path.{refl}
use mathlib.Core.List.{List}
use Prim.Native.Nat.{ℕ, ◌+◌, ◌≤◌, ◌<◌}
use native.Mathlib.Decide.{dec_lt}
use native.Mathlib.Omega.{arith}
use Rattle.model.specs.Plan.{Plan}
use Rattle.model.specs.Placement.{Feasible, share_of, load}
use Rattle.model.specs.Steps.{Step, none, relocate, exchange, across_racks, AtRest}
use Rattle.theory.specs.Refusal.{Shaped}
use Rattle.theory.specs.Steps.{Admissible}
use Rattle.theory.proofs.StepsLocal.{can_move-local, can_swap-local}
use Rattle.theory.proofs.StepsNext.{next-steps}
use Rattle.theorems.specs.Bounds.{Settled, RestSettled}

module _ (p : Plan) (shaped : Shaped p) (count : ℕ → ℕ) (words : List ℕ) (feasible : Feasible p count words) where
  settled-at-rest : AtRest p words → Settled p words 0
  settled-at-rest rest =
      record {
        no_move = λ m n i ml nl il on off room positive spread apart.
            no_gap (load p words m) (load p words n + share_of p words i) (λ lower.
            none_left (relocate (across_racks p m n) m n i) (
              ml,
              nl,
              il,
              (can_move-local p shaped count words feasible m n i ml nl il).1
                  (record { on = on; off = off; room = room; lowers = (positive, omega arith); spread = spread; apart = apart }),
              refl,
            ));
        no-swap = λ m n i j ml nl il jl i-on i-off j-on j-off gain i-spread j-spread i-apart j-apart.
            no_gap (load p words m + share_of p words j) (load p words n + share_of p words i) (λ lower.
            none_left (exchange (across_racks p m n) m n i j) (
              ml,
              nl,
              il,
              jl,
              (can_swap-local p shaped count words feasible m n i j ml nl il jl).1
                  (record {
                    i-on = i-on;
                    i-off = i-off;
                    j-on = j-on;
                    j-off = j-off;
                    lowers = (gain, lower);
                    i-spread = i-spread;
                    j-spread = j-spread;
                    i-apart = i-apart;
                    j-apart = j-apart;
                  }),
              refl,
            ));
      }
    where
      none_left : (s : Step) → Admissible p words s → ⊥
      none_left = (next-steps p words).rest.0 rest

      no_gap : (a b : ℕ) → (b < a → ⊥) → a ≤ b + 0
      no_gap a b h = elim (dec_lt b a) [ yes l ↦ absurd (h l) | no l ↦ omega arith ]

  rest-of-settled : Settled p words 0 → AtRest p words
  rest-of-settled settled = (next-steps p words).rest.1 none_left
    where
      none_left : (s : Step) → Admissible p words s → ⊥
      none_left none h = h
      none_left (relocate racks m n i) (ml, nl, il, can, across) =
          let s = (can_move-local p shaped count words feasible m n i ml nl il).0 can in
          omega (arith, s.lowers, settled.no_move m n i ml nl il s.on s.off s.room s.lowers.0 s.spread s.apart)
      none_left (exchange racks m n i j) (ml, nl, il, jl, can, across) =
          let s = (can_swap-local p shaped count words feasible m n i j ml nl il jl).0 can in
          omega (
            arith,
            s.lowers,
            settled.no-swap m n i j ml nl il jl s.i-on s.i-off s.j-on s.j-off s.lowers.0 s.i-spread s.j-spread
                s.i-apart s.j-apart,
          )

pub rest-settled : RestSettled
rest-settled p shaped count words feasible =
    (settled-at-rest p shaped count words feasible, rest-of-settled p shaped count words feasible)
