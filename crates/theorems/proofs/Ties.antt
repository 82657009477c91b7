-- The document's example of ties, on a plan's bytes.
-- Assumes nothing.
use mathlib.Core.Path.{◌≡◌, refl, ap, sym, ◌∙◌}
use mathlib.Core.Bool.{true}
use mathlib.Core.List.{List}
use Prim.Native.Nat.{ℕ, zero, suc, ◌*◌, ◌-◌, ◌≤◌, ◌<◌}
use native.Mathlib.Nat.{le_trans, le_of_eq}
use native.Mathlib.Omega.{arith}
use lib.Dec.{lit<}
use Rattle.order.specs.Sum.{sum}
use Rattle.order.specs.Table.{table}
use Rattle.order.specs.Search.{first_up, least, allb, largest}
use Rattle.order.proofs.Extremes.{largest-term, sum-largest}
use Rattle.model.specs.Plan.{block_count, block_of, max_replicas, upper, min_total, field, format_of, block_in, plan_in, is_paired, pairs_back, pairs_next, partner}
use Rattle.model.specs.Refusal.{check1, check2, check3, check4, check22, check5, check6, check7, check8, check9, block_refusal, blocks_refusal, check23, check10, check11, check12, plan_refusal, refusal, judge, accepted, pairs_refusal, pair_refusal, check17, alike}
use Rattle.model.specs.Replication.{copy_limit, unit, share, need, reachable, figure, chosen}
use Rattle.model.specs.Placement.{bit, replicas, replicas_in, domains_used, used, Feasible, all_within, all_spread, all_fit, counts_feasible, is_feasible, share_of, load, max_load_of, total_load_of, all_apart, kept_apart}
use Rattle.model.specs.Steps.{Step, none, relocate, exchange, shifted, after_move, after_swap, after, improves, can_move, can_swap, routes, next_move, next_swap, next_step, Run, run}
use Rattle.model.specs.Calls.{all_counted, placement_refusal, on_placement, check_call, step_call, run_call}
use Rattle.theory.specs.Refusal.{Valid}
use Rattle.theory.specs.Steps.{Admissible}
use Rattle.theory.proofs.Refusal.{accepted-laws}
use Rattle.theory.proofs.Replication.{figure-at}
use Rattle.theory.proofs.Steps.{after_move-load-else, after_swap-load-else}
use Rattle.theory.proofs.StepsLocal.{can_move-lowers, can_swap-lowers}
use Rattle.theory.proofs.StepsNext.{run_none}
use Rattle.theory.proofs.Calls.{on_plan-made, placement_refusal-feasible}
use Rattle.theorems.specs.Ties.{plan-tied, tied, sixes, fours, Ties}
use Rattle.theorems.proofs.TotalLoad.{loads-total}

accepts : judge plan-tied ≡ accepted tied
unfolding judge refusal check1 check2 check3 check4 check22 check5 check6 check7 plan_refusal blocks_refusal block_refusal check8 check9 pairs_refusal pair_refusal check17 alike check23 check10 check11 plan_in block_in format_of field upper max_replicas is_paired pairs_back pairs_next min_total sum table first_up plan-tied
accepts = refl

valid : Valid tied
valid = (accepted-laws plan-tied tied accepts).valid

-- the figure is one read, which twelve copies reach
figure-tied : figure tied ≡ 2520
unfolding reachable need share copy_limit upper max_replicas is_paired pairs_back pairs_next sum least allb
figure-tied = figure-at tied valid 2519 refl refl

passes : placement_refusal sixes tied ≡ 0
unfolding placement_refusal all_counted check12 all_within all_spread all_fit all_apart kept_apart partner used replicas replicas_in domains_used chosen need share upper max_replicas is_paired pairs_back pairs_next bit sum least allb
passes = rw figure-tied refl

feasible : Feasible tied (chosen tied) sixes
feasible = placement_refusal-feasible tied valid sixes passes

-- the loads, in units
hot0 : load tied sixes 0 ≡ 15120
unfolding load share_of share replicas bit sum
hot0 = refl

hot1 : load tied sixes 1 ≡ 15120
unfolding load share_of share replicas bit sum
hot1 = refl

cool2 : load tied sixes 2 ≡ 0
unfolding load share_of share replicas bit sum
cool2 = refl

highest : max_load_of tied sixes ≡ 6 * unit
unfolding max_load_of largest
highest = rw (hot0, hot1, cool2)

-- A step goes to a machine with less load, so it takes from one of the two hot machines and gives to the third: the other hot one
-- keeps its load.
keeps : (m n : ℕ) → m < 3 → load tied sixes n < load tied sixes m → (later : ℕ → ℕ)
    → ((k : ℕ) → (k ≡ m → ⊥) → (k ≡ n → ⊥) → later k ≡ load tied sixes k)
    → (k : ℕ) × (k < 3) × (later k ≡ 6 * unit)
keeps zero n l less later same =
    (1, lit< tt, same 1 (λ e. omega arith) (λ e. let z : load tied sixes 1 ≡ load tied sixes n = ap (load tied sixes) e in omega (arith, hot0, hot1)) ∙ hot1)
keeps (suc zero) n l less later same =
    (0, lit< tt, same 0 (λ e. omega arith) (λ e. let z : load tied sixes 0 ≡ load tied sixes n = ap (load tied sixes) e in omega (arith, hot0, hot1)) ∙ hot0)
keeps (suc (suc m)) n l less later same =
    let third : suc (suc m) ≡ 2 = omega arith in
    let none : load tied sixes (suc (suc m)) ≡ 0 = ap (load tied sixes) third ∙ cool2 in
    absurd (omega arith)

still : (words : List ℕ) → (k : ℕ) × (k < 3) × (load tied words k ≡ 6 * unit) → max_load_of tied sixes ≤ max_load_of tied words
unfolding max_load_of
still words (k, l, e) = le_trans (le_of_eq (highest ∙ sym e)) (largest-term 3 (load tied words) k l)

none-lowers : (s : Step) → Admissible tied sixes s → max_load_of tied sixes ≤ max_load_of tied (after sixes s)
unfolding after
none-lowers none h = absurd h
none-lowers (relocate racks m n i) (ml, nl, il, can, across) =
    let s = can_move-lowers tied sixes m n i ml nl il can in
    still (after_move sixes m n i)
    (keeps m n ml (omega (arith, s.2)) (load tied (after_move sixes m n i))
    (after_move-load-else tied sixes m n i s.0 s.1 ml nl il))
none-lowers (exchange racks m n i j) (ml, nl, il, jl, can, across) =
    let s = can_swap-lowers tied sixes m n i j ml nl il jl can in
    still (after_swap sixes m n i j)
    (keeps m n ml (omega (arith, s.4)) (load tied (after_swap sixes m n i j))
    (after_swap-load-else tied sixes m n i j s.0 s.1 s.2 s.3 ml nl il jl))

-- The loads of every lawful placement sum to twelve reads, on three machines.
twelve : sum (block_count tied) (λ i. (block_of tied i).popularity) ≡ 12
unfolding sum
twelve = refl

best : (count : ℕ → ℕ) (words : List ℕ) → Feasible tied count words → 4 * unit ≤ max_load_of tied words
unfolding total_load_of max_load_of
best count words f = omega (arith, loads-total tied valid count words f, twelve, sum-largest 3 (load tied words))

-- the run, on the plan's fields: five steps, and then no step is left
rest-tied : next_step tied fours ≡ none
unfolding shifted after_move after_swap improves can_move can_swap routes next_move next_swap next_step bit replicas replicas_in domains_used used all_within all_spread all_fit all_apart kept_apart partner counts_feasible is_feasible share_of load share copy_limit upper max_replicas is_paired pairs_back pairs_next sum first_up allb
rest-tied = refl

run-tied : (more : ℕ) → run tied (suc (suc (suc (suc (suc more))))) sixes ≡ record { rested = true; steps = 5; words = fours }
unfolding shifted after_move after_swap after improves can_move can_swap routes next_move next_swap next_step run bit replicas replicas_in domains_used used all_within all_spread all_fit all_apart kept_apart partner counts_feasible is_feasible share_of load share copy_limit upper max_replicas is_paired pairs_back pairs_next sum first_up allb
run-tied more =
    ap (λ (r : Run). record { rested = r.rested; steps = suc (suc (suc (suc (suc r.steps)))); words = r.words }) (run_none tied fours more rest-tied)

run-enough : (limit : ℕ) → 5 ≤ limit → run tied limit sixes ≡ record { rested = true; steps = 5; words = fours }
run-enough limit l =
    let split : suc (suc (suc (suc (suc (limit - 5))))) ≡ limit = omega arith in
    rw split at (run-tied (limit - 5))

pub ties : Ties
unfolding check_call step_call run_call on_placement shifted after_move after_swap after improves can_move can_swap routes next_move next_swap next_step bit replicas replicas_in domains_used used all_within all_spread all_fit all_apart kept_apart partner counts_feasible is_feasible share_of load max_load_of share copy_limit upper max_replicas is_paired pairs_back pairs_next sum table first_up allb largest
ties =
    record {
      accepts = accepts;
      passes = on_plan-made sixes (placement_refusal sixes) _ (judge plan-tied) tied accepts passes;
      six-six-none = refl;
      highest = highest;
      none-lowers = none-lowers;
      one_left = on_plan-made sixes (placement_refusal sixes) _ (judge plan-tied) tied accepts passes;
      best = best;
      rests = λ limit l. on_plan-made sixes (placement_refusal sixes) _ (judge plan-tied) tied accepts passes ∙ (rw (run-enough limit l));
      reached = refl;
    }
