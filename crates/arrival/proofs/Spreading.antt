-- Laws of the spread's copies, one after the other.
-- Assumes nothing.
use mathlib.Core.Path.{◌≡◌, refl, ap, sym, ◌∙◌}
use mathlib.Core.Bool.{Bool, true, false, cond}
use mathlib.Core.List.{List}
use mathlib.Core.Logic.{◌⊎◌, inl, inr, ◌↔◌}
use Prim.Native.Nat.{ℕ, ◌+◌, ◌*◌, ◌-◌, ◌^◌, ◌<◌, ◌≤◌}
use native.Mathlib.Nat.{zero-mul, one-mul}
use native.Mathlib.Decide.{ℕ_discrete}
use native.Mathlib.Omega.{arith}
use lib.Dec.{ltb}
use lib.ListN.{get_or}
use Rattle.order.specs.Sum.{sum, delta}
use Rattle.order.proofs.Booleans.{and-iff, eqb-iff, ltb_iff}
use Rattle.order.proofs.Sums.{delta-same, delta-other}
use Rattle.model.specs.Plan.{Plan, machines, domains, domain}
use Rattle.model.specs.Refusal.{max_machines}
use Rattle.model.specs.Placement.{bit, replicas_in, load}
use Rattle.model.specs.Recordings.{free_word, domain_load, next_domain, machine_in, spread_word}
use Rattle.theory.proofs.Placement.{bit_le, bit-cases, bit-zero, bit-add, bit-take, replicas_in-zero, replicas_in-add}
use Rattle.theory.proofs.Arrivals.{free_word-laws, spread_word-zero, spread_word-step}
use Rattle.arrival.specs.Arrival.{LightestOf, SpreadAsked, SpreadOf}
use Rattle.arrival.proofs.Laws.{set_of-below, set_of-bit, bit-place, count_add, count-take, count-zero, lightest_of-is}

-- a domain with a free place in which the word has no copy
abbrev pub Unused : Plan → List ℕ → ℕ → ℕ → Type 0
Unused p words word d = (0 < replicas_in p (free_word p words) d) × (replicas_in p word d ≡ 0)

-- the word with so many copies, and what it is in a plan
pub record SpreadIs (p : Plan) (words : List ℕ) (word left copies : ℕ) : Type 0 where
  pub word-is : word ≡ spread_word p words copies
  pub left-are : (d : ℕ) → d < domains p → (bit left d ≡ 1) ↔ Unused p words word d

pub record Spreading (parts weights loads : List ℕ) (roomy spread word left copies : ℕ) : Type 0 where
  pub inside : (k : ℕ) → bit word k ≡ 1 → (d : ℕ) × (d < max_machines) × (bit (get_or parts d 0) k ≡ 1)
  pub clear : (k : ℕ) → bit word k ≡ 1 → (d : ℕ) → d < max_machines → bit (get_or parts d 0) k ≡ 1 → bit left d ≡ 0
  pub fewer : (d : ℕ) → bit left d ≤ bit roomy d
  pub enough : spread ≤ copies + sum max_machines (bit left)
  pub copies-are : sum max_machines (bit word) ≡ copies
  pub is : (p : Plan) (words : List ℕ) → SpreadOf p words parts weights loads roomy → SpreadIs p words word left copies

-- a number of the set exactly if it passes the test
pub passed : (t : Bool) → (◌≡◌ {A = ℕ} (cond t 1 0) 1) ↔ (t ≡ true)
passed true = (λ e. refl, λ e. refl)
passed false = (λ e. absurd (omega arith), λ e. absurd (let z : ◌≡◌ {A = ℕ} 0 1 = cc in omega arith))

module _ (parts weights loads : List ℕ) (roomy spread : ℕ) where
  pub spreading-none : SpreadAsked parts weights loads roomy spread → Spreading parts weights loads roomy spread 0 roomy 0
  spreading-none asked =
      record {
        inside = λ k on. absurd (omega (arith, bit-zero k));
        clear = λ k on. absurd (omega (arith, bit-zero k));
        fewer = λ d. omega arith;
        enough = omega (arith, asked.enough);
        copies-are = count-zero max_machines;
        is = λ p words of. record { word-is = sym (spread_word-zero p words); left-are = start p words of };
      }
    where
      start : (p : Plan) (words : List ℕ) → SpreadOf p words parts weights loads roomy
          → (d : ℕ) → d < domains p → (bit roomy d ≡ 1) ↔ Unused p words 0 d
      start p words of d l =
          let test : ℕ → Bool = λ e. ltb 0 (replicas_in p (free_word p words) e) in
          let bits : bit roomy d ≡ cond (test d) 1 0 = ap (λ (w : ℕ). bit w d) of.roomy-is ∙ set_of-bit test (domains p) d l in
          let pass = passed (test d) in
          let room = ltb_iff 0 (replicas_in p (free_word p words) d) in (
            λ on. (room.0 (pass.0 (sym bits ∙ on)), replicas_in-zero p d),
            λ unused. bits ∙ pass.1 (room.1 unused.0),
          )

  module _ (word left copies d m : ℕ) (asked : SpreadAsked parts weights loads roomy spread)
      (so : Spreading parts weights loads roomy spread word left copies)
      (lightest : LightestOf left weights d) (place : LightestOf (get_or parts d 0) loads m) where
    -- the word has not the machine yet
    pub spreading-off : bit word m ≡ 0
    spreading-off = go (bit-cases word m)
      where
        go : (bit word m ≡ 0) ⊎ (bit word m ≡ 1) → bit word m ≡ 0
        go (inl off) = off
        go (inr on) = absurd (omega (arith, so.clear m on d lightest.below place.on, lightest.on))

    less : (e : ℕ) → bit (left - 2 ^ d) e + delta e d ≡ bit left e
    less = (bit-take left d lightest.on).1

    gone : bit (left - 2 ^ d) d ≡ 0
    gone = omega (arith, less d, delta-same d d refl, bit_le left d)

    module _ (p : Plan) (words : List ℕ) (of : SpreadOf p words parts weights loads roomy) where
      domain-below : (e : ℕ) → bit left e ≡ 1 → e < domains p
      domain-below e on =
          let within = set_of-below (λ k. ltb 0 (replicas_in p (free_word p words) k)) (domains p) in
          bit-place roomy (domains p) (rw of.roomy-is within) e (omega (arith, so.fewer e, bit_le roomy e))

      -- the domain is the plan's next one
      next-domain : d ≡ next_domain p words word
      unfolding next_domain
      next-domain =
          lightest_of-is left weights d lightest _ (domain_load p words) (domains p) domain-below
          (λ e l.
          let tests = and-iff _ _ (ltb_iff 0 (replicas_in p (free_word p words) e)) (eqb-iff (replicas_in p word e) 0) in
          let here = (so.is p words of).left-are e l in
          (λ t. here.1 (tests.0 t), λ on. tests.1 (here.0 on)))
          of.weights-are

      -- a machine of the part is a free machine of the domain
      in-part : (k : ℕ) → bit (get_or parts d 0) k ≡ 1 → (bit (free_word p words) k ≡ 1) × (domain p k ≡ d)
      in-part k on = go (ℕ_discrete (domain p k) d) (of.parts_are d (domain-below d lightest.on) k)
        where
          go : Dec (domain p k ≡ d) → bit (get_or parts d 0) k ≡ delta (domain p k) d * bit (free_word p words) k
              → (bit (free_word p words) k ≡ 1) × (domain p k ≡ d)
          go (yes e) is = (omega (arith, (rw (delta-same (domain p k) d e, one-mul (bit (free_word p words) k)) at is)), e)
          go (no h) is = absurd (omega (arith, (rw (delta-other (domain p k) d h, zero-mul (bit (free_word p words) k)) at is)))

      part_in : (k : ℕ) → (bit (free_word p words) k ≡ 1) × (domain p k ≡ d) → bit (get_or parts d 0) k ≡ 1
      part_in k z =
          of.parts_are d (domain-below d lightest.on) k ∙ (rw (delta-same (domain p k) d z.1, z.0))

      machine-below : (k : ℕ) → bit (get_or parts d 0) k ≡ 1 → k < machines p
      machine-below k on = bit-place (free_word p words) (machines p) (free_word-laws p words).below k (in-part k on).0

      -- the machine is the plan's, too
      next-machine : m ≡ machine_in p words d
      unfolding machine_in
      next-machine =
          lightest_of-is (get_or parts d 0) loads m place _ (load p words) (machines p) machine-below
          (λ k l.
          let tests = and-iff _ _ (eqb-iff (bit (free_word p words) k) 1) (eqb-iff (domain p k) d) in
          (λ t. part_in k (tests.0 t), λ on. tests.1 (in-part k on)))
          of.loads-are

      left_after : (e : ℕ) → e < domains p → (bit (left - 2 ^ d) e ≡ 1) ↔ Unused p words (word + 2 ^ m) e
      left_after e l = go (ℕ_discrete e d)
        where
          more : replicas_in p (word + 2 ^ m) e ≡ replicas_in p word e + delta (domain p m) e
          more = replicas_in-add p word m e (machine-below m place.on) spreading-off

          home : domain p m ≡ d
          home = (in-part m place.on).1

          go : Dec (e ≡ d) → (bit (left - 2 ^ d) e ≡ 1) ↔ Unused p words (word + 2 ^ m) e
          go (yes same) = (
            λ on. absurd (omega (arith, less e, delta-same e d same, bit_le left e)),
            λ unused. absurd (omega (arith, unused.1, more, delta-same (domain p m) e (home ∙ sym same))),
          )
          go (no other) =
              let here = (so.is p words of).left-are e l in
              let none = delta-other (domain p m) e (λ q. other (sym q ∙ home)) in
              let same : bit (left - 2 ^ d) e ≡ bit left e = omega (arith, less e, delta-other e d other) in (
                λ on. let z = here.0 (sym same ∙ on) in (z.0, omega (arith, z.1, more)),
                λ unused. same ∙ here.1 (unused.0, omega (arith, unused.1, more)),
              )

      spread-after : SpreadIs p words (word + 2 ^ m) (left - 2 ^ d) (copies + 1)
      spread-after =
          record {
            word-is =
                ap (λ (n : ℕ). word + 2 ^ n) (next-machine ∙ ap (machine_in p words) next-domain)
                ∙ ap (λ (w : ℕ). w + 2 ^ machine_in p words (next_domain p words w)) (so.is p words of).word-is
                ∙ sym (spread_word-step p words copies);
            left-are = left_after;
          }

    pub spreading-step : Spreading parts weights loads roomy spread (word + 2 ^ m) (left - 2 ^ d) (copies + 1)
    spreading-step =
        record {
          inside = λ k on. inside k on (ℕ_discrete k m);
          clear = λ k on e l in_e. clear k on e l in_e (ℕ_discrete k m);
          fewer = λ e. omega (arith, less e, so.fewer e);
          enough = omega (arith, so.enough, count-take max_machines left d lightest.below lightest.on);
          copies-are = omega (arith, so.copies-are, count_add max_machines word m place.below spreading-off);
          is = spread-after;
        }
      where
        before : (k : ℕ) → bit (word + 2 ^ m) k ≡ 1 → (k ≡ m → ⊥) → bit word k ≡ 1
        before k on other = omega (arith, bit-add word m spreading-off k, delta-other k m other)

        inside : (k : ℕ) → bit (word + 2 ^ m) k ≡ 1 → Dec (k ≡ m) → (e : ℕ) × (e < max_machines) × (bit (get_or parts e 0) k ≡ 1)
        inside k on (yes same) = (d, lightest.below, rw same place.on)
        inside k on (no other) = so.inside k (before k on other)

        clear : (k : ℕ) → bit (word + 2 ^ m) k ≡ 1 → (e : ℕ) → e < max_machines → bit (get_or parts e 0) k ≡ 1 → Dec (k ≡ m)
            → bit (left - 2 ^ d) e ≡ 0
        clear k on e l in_e (yes same) =
            let one : e ≡ d = asked.apart e d m l lightest.below (rw same at in_e) place.on in
            rw one gone
        clear k on e l in_e (no other) = omega (arith, less e, so.clear k (before k on other) e l in_e)
