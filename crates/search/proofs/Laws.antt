-- Laws of one kind of step: which machines are of the kind, and the kinds in their order.
-- Assumes nothing.
use mathlib.Core.Path.{◌≡◌, refl, ap, ap₂, ◌∙◌}
use mathlib.Core.Bool.{Bool, true, false, not, beq}
use mathlib.Core.List.{List}
use Prim.Native.Nat.{ℕ, ◌+◌, ◌*◌, ◌/◌, ◌%◌, ◌<◌, ◌≤◌}
use Rattle.std.proofs.Common.{Option, Some, None}
use native.Mathlib.Nat.{add-zero, mod-lt, div-lt_iff_lt-mul, mul-div_cancel, mul-mod_left}
use native.Mathlib.Decide.{dec_lt}
use native.Mathlib.Omega.{arith}
use borrow.Author.Tests.{eq-eqb, ne_eqb}
use lib.Arith.{digits_div}
use lib.Dec.{eqb}
use Rattle.order.proofs.Arithmetic.{mod-digits}
use Rattle.model.specs.Plan.{Plan}
use Rattle.model.specs.Steps.{Step as ModelStep, none, relocate, exchange, routes, next_move, next_swap, or_step, next_step}
use Rattle.cluster.specs.declared.Cluster.{Cluster}
use Rattle.cluster.specs.Cluster.{domain_in, InRange}
use Rattle.transfers.specs.Route.{route_step}
use Rattle.search.specs.declared.Step.{Step}
use Rattle.search.specs.declared.Step.TheVariants.{Move, Swap, RackMove, RackSwap}
use Rattle.search.specs.Scene.{step_of, route_of, row_of, kind_step, FoundIs, NextFound}

-- ── of_kind ────────────────────────────────────────────────────────────────────────────────────────────────────────────

pub beq-true : (a : Bool) → a ≡ beq a true
beq-true true = refl
beq-true false = refl

pub beq-false : (a : Bool) → not a ≡ beq a false
beq-false true = refl
beq-false false = refl

pub true-beq : (a : Bool) → beq true a ≡ a
true-beq true = refl
true-beq false = refl

-- the machines before, in and after the rack of m
module _ (size m n : ℕ) (pos : 1 ≤ size) where
  pub apart-before : n < m / size * size → not (eqb (m / size) (n / size)) ≡ true
  apart-before l =
      let less : n / size < m / size = (div-lt_iff_lt-mul pos).1 l in
      ap not (ne_eqb (m / size) (n / size) (λ e. omega arith))

  not-before : m / size * size ≤ n → m / size ≤ n / size
  not-before l = elim (dec_lt (n / size) (m / size)) [
    | yes less ↦ let h : n < m / size * size = (div-lt_iff_lt-mul pos).0 less in absurd (omega arith)
    | no more ↦ omega arith
  ]

  pub apart-after : m / size * size + size ≤ n → not (eqb (m / size) (n / size)) ≡ true
  apart-after l = elim (dec_lt (n / size) (m / size + 1)) [
    | yes less ↦ let h : n < (m / size + 1) * size = (div-lt_iff_lt-mul pos).0 less in absurd (omega arith)
    | no more ↦ ap not (ne_eqb (m / size) (n / size) (λ e. omega arith))
  ]

  pub apart-inside : m / size * size ≤ n → n < m / size * size + size → not (eqb (m / size) (n / size)) ≡ false
  apart-inside l h =
      let above = not-before l in
      let within : n < (m / size + 1) * size = omega arith in
      let below : n / size < m / size + 1 = (div-lt_iff_lt-mul pos).1 within in
      ap not (eq-eqb (m / size) (n / size) (omega arith))

-- ── is_parted ──────────────────────────────────────────────────────────────────────────────────────────────────────────

module _ (c : Cluster) (range : InRange c) where
  -- a machine's number within its turn of the domains gives its domain, and the start of its rack the start of its domain's first one
  pub turn-domain : (n : ℕ) → n % (c.feeds * c.rack_size) / c.rack_size ≡ domain_in c n
  turn-domain n =
      ap (λ (k : ℕ). k / c.rack_size) (mod-digits n c.feeds c.rack_size range.feeds-pos range.size-pos)
      ∙ digits_div (domain_in c n) (mod-lt n range.size-pos)

  pub turn-base : (m : ℕ) → m / c.rack_size * c.rack_size % (c.feeds * c.rack_size) ≡ domain_in c m * c.rack_size
  turn-base m =
      let size = c.rack_size in
      let rack = m / size in
      mod-digits (rack * size) c.feeds size range.feeds-pos range.size-pos
      ∙ ap₂ (λ (q x : ℕ). q % c.feeds * size + x) (mul-div_cancel rack range.size-pos) (mul-mod_left rack size)
      ∙ add-zero (domain_in c m * size)

-- ── next_step ───────────────────────────────────────────────────────────────────────────────────────────────────────────

-- the first of three
or_step-grouped : (a b later : ModelStep) → or_step (or_step a b) later ≡ or_step a (or_step b later)
or_step-grouped none b later = refl
or_step-grouped (relocate racks m n i) b later = refl
or_step-grouped (exchange racks m n i j) b later = refl

-- what one kind finds
pub kind-found : {c : Cluster} {words profiles : List ℕ} {wanted : Plan → ModelStep} (later : Plan → ModelStep) (s : Step)
    → FoundIs c words profiles wanted (step_of (Some s)) → FoundIs c words profiles (λ p. or_step (wanted p) (later p)) (step_of (Some s))
unfolding step_of
kind-found later s found =
    record {
      sound = found.sound;
      is = λ p count at. taken s (later p) ∙ ap (λ (s : ModelStep). or_step s (later p)) (found.is p count at);
    }
  where
    taken : (s : Step) (later : ModelStep) → step_of (Some s) ≡ or_step (step_of (Some s)) later
    taken (Move m n i) later = refl
    taken (Swap m n i j) later = refl
    taken (RackMove m n i) later = refl
    taken (RackSwap m n i j) later = refl

-- or else a later one
pub kind-later : {c : Cluster} {words profiles : List ℕ} {wanted : Plan → ModelStep} (later : Plan → ModelStep) (s : ModelStep)
    → FoundIs c words profiles wanted (step_of None) → FoundIs c words profiles later s
    → FoundIs c words profiles (λ p. or_step (wanted p) (later p)) s
unfolding step_of
kind-later later s found after =
    record {
      sound = after.sound;
      is = λ p count at. after.is p count at ∙ ap (λ (s : ModelStep). or_step s (later p)) (found.is p count at);
    }

-- the four kinds are the definition's next step
pub next_step-kinds : {c : Cluster} {words profiles : List ℕ} (r : Option Step)
    → FoundIs c words profiles (λ p. or_step (or_step (or_step
    (kind_step p words false false) (kind_step p words true false)) (kind_step p words false true)) (kind_step p words true true)) (step_of r)
    → NextFound c words profiles r
unfolding next_step next_move next_swap routes kind_step row_of route_of route_step
next_step-kinds {words} r found =
    record {
      sound = found.sound;
      is = λ p count at.
          found.is p count at
          ∙ or_step-grouped (or_step (kind_step p words false false) (kind_step p words true false)) (kind_step p words false true) (kind_step p words true true)
          ∙ or_step-grouped (kind_step p words false false) (kind_step p words true false) (or_step (kind_step p words false true) (kind_step p words true true));
    }
