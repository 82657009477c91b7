-- Searches of steps, for loops that return what they find.
-- Assumes nothing.
use mathlib.Core.Path.{◌≡◌, refl, ap, ◌∙◌}
use mathlib.Core.Bool.{Bool, true, false, cond}
use Prim.Native.Nat.{ℕ, ◌<◌}
use Rattle.std.proofs.Common.{Option, Some, None}
use Rattle.std.specs.Option.{is_some}
use Rattle.order.proofs.Searches.{first-none, first-at}
use Rattle.model.specs.Steps.{Step, none, is_step, first}
use Rattle.transfers.specs.declared.Hit.{Hit}
use Rattle.transfers.specs.declared.Hit.TheVariants.{Move, Swap}
use Rattle.transfers.specs.Route.{hit_of}

-- a step at i, none before it
pub step-found : (n i : ℕ) (f : ℕ → Step) (s : Step) → i < n → ((k : ℕ) → k < i → is_step (f k) ≡ false)
    → f i ≡ s → is_step s ≡ true → first n f ≡ s
step-found n i f s l before here is = first-at is_step none refl f n i l before (ap is_step here ∙ is) ∙ here

pub none_found : (n : ℕ) (f : ℕ → Step) → ((k : ℕ) → k < n → is_step (f k) ≡ false) → first n f ≡ none
none_found n f each = first-none is_step none refl f n each

-- the same for steps that pass a test
pub test-found : (n i : ℕ) (test : ℕ → Bool) (step : ℕ → Step) → i < n → ((k : ℕ) → k < i → test k ≡ false)
    → test i ≡ true → is_step (step i) ≡ true → first n (λ k. cond (test k) (step k) none) ≡ step i
test-found n i test step l before here is =
    step-found n i (λ k. cond (test k) (step k) none) (step i) l (λ k h. rw (before k h)) (rw here) is

pub test-none : (n : ℕ) (test : ℕ → Bool) (step : ℕ → Step) → ((k : ℕ) → k < n → test k ≡ false)
    → first n (λ k. cond (test k) (step k) none) ≡ none
test-none n test step each = none_found n (λ k. cond (test k) (step k) none) (λ k h. rw (each k h))

-- what is found is a step
pub hit-is_step : (across : Bool) (r : Option Hit) → is_step (hit_of across r) ≡ is_some r
unfolding hit_of
hit-is_step across None = refl
hit-is_step across (Some (Move m n i)) = refl
hit-is_step across (Some (Swap m n i j)) = refl
