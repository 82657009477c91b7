-- Laws of the copies behind the spread's, one after the other.
-- Assumes nothing.
use mathlib.Core.Path.{◌≡◌, ap, sym, ◌∙◌}
use mathlib.Core.List.{List}
use mathlib.Core.Logic.{◌⊎◌, inl, inr}
use Prim.Native.Nat.{ℕ, ◌+◌, ◌*◌, ◌-◌, ◌^◌, ◌≤◌}
use native.Mathlib.Omega.{arith}
use Rattle.order.specs.Sum.{sum}
use Rattle.order.proofs.Booleans.{and-iff, eqb-iff}
use Rattle.order.proofs.Sums.{sum-cong, sum-add}
use Rattle.model.specs.Plan.{Plan, machines}
use Rattle.model.specs.Refusal.{max_machines}
use Rattle.model.specs.Placement.{bit, load}
use Rattle.model.specs.Recordings.{free_word, next_machine, filled_word}
use Rattle.theory.proofs.Placement.{bit_le, bit-cases, bit-add, bit-take}
use Rattle.theory.proofs.Arrivals.{free_word-laws, filled_word-zero, filled_word-step}
use Rattle.arrival.specs.Arrival.{LightestOf, FillAsked, FillOf}
use Rattle.arrival.proofs.Laws.{bit-place, count-take, lightest_of-is}

-- the word with so many copies more, and the free machines left
pub record Filling (free word : ℕ) (loads : List ℕ) (others filled left copies : ℕ) : Type 0 where
  pub parted : (k : ℕ) → bit left k + bit filled k ≡ bit free k
  pub enough : others ≤ copies + sum max_machines (bit left)
  pub is : (p : Plan) (words : List ℕ) → FillOf p words free loads → filled ≡ filled_word p words word copies

pub filling-none : (free word : ℕ) (loads : List ℕ) (others left : ℕ) → FillAsked free word loads others
    → ((k : ℕ) → bit left k ≡ bit free k * (1 - bit word k)) → Filling free word loads others word left 0
filling-none free word loads others left asked taken =
    let total = sym (sum-add max_machines (bit left) (bit word)) ∙ sum-cong max_machines _ (bit free) (λ k l. parted k) in
    record {
      parted = parted;
      enough = omega (arith, total, asked.enough);
      is = λ p words of. sym (filled_word-zero p words word);
    }
  where
    parted : (k : ℕ) → bit left k + bit word k ≡ bit free k
    parted k = rw (taken k) (go (bit-cases word k))
      where
        go : (bit word k ≡ 0) ⊎ (bit word k ≡ 1) → bit free k * (1 - bit word k) + bit word k ≡ bit free k
        go (inl off) = rw off (omega arith)
        go (inr on) = rw on (omega (arith, asked.inside k, bit_le free k))

module _ (free word : ℕ) (loads : List ℕ) (others filled left copies m : ℕ) (so : Filling free word loads others filled left copies)
    (lightest : LightestOf left loads m) where
  -- the word has not the machine yet
  pub filling-off : bit filled m ≡ 0
  filling-off = omega (arith, so.parted m, lightest.on, bit_le free m)

  -- it is the plan's next one
  filling-next : (p : Plan) (words : List ℕ) → FillOf p words free loads → m ≡ next_machine p words filled
  unfolding next_machine
  filling-next p words of =
      lightest_of-is left loads m lightest _ (load p words) (machines p)
      (λ k on. bit-place (free_word p words) (machines p) (free_word-laws p words).below k (has k on))
      (λ k l.
      let tests = and-iff _ _ (eqb-iff (bit (free_word p words) k) 1) (eqb-iff (bit filled k) 0) in (
        λ t. let z = tests.0 t in omega (arith, so.parted k, same k, z.0, z.1),
        λ on. tests.1 (has k on, omega (arith, so.parted k, bit_le free k)),
      ))
      of.loads-are
    where
      same : (k : ℕ) → bit free k ≡ bit (free_word p words) k
      same k = ap (λ (w : ℕ). bit w k) of.free-is

      has : (k : ℕ) → bit left k ≡ 1 → bit (free_word p words) k ≡ 1
      has k on = omega (arith, so.parted k, same k, bit_le free k)

  pub filling_step : Filling free word loads others (filled + 2 ^ m) (left - 2 ^ m) (copies + 1)
  filling_step =
      record {
        parted = λ k. omega (arith, so.parted k, bit-add filled m filling-off k, (bit-take left m lightest.on).1 k);
        enough = omega (arith, so.enough, count-take max_machines left m lightest.below lightest.on);
        is = λ p words of.
            ap (λ (n : ℕ). filled + 2 ^ n) (filling-next p words of)
            ∙ ap (λ (w : ℕ). w + 2 ^ next_machine p words w) (so.is p words of)
            ∙ sym (filled_word-step p words word copies);
      }
