-- `records::upper_count` meets its contract.
-- Assumes nothing.
use mathlib.Core.Path.{◌≡◌, refl, sym, ◌∙◌}
use mathlib.Core.Bool.{Bool, true, false, cond}
use Prim.Native.Nat.{ℕ, ◌/◌, min}
use native.Mathlib.Omega.{arith}
use Rattle.model.specs.Plan.{Plan, machines, is_paired, max_replicas, upper}
use Rattle.records.proofs.upper_count.Goals as goal

-- the smaller of the two numbers at hand
upper_is : (p : Plan) (i version most usable : ℕ) → version ≡ p.version → most ≡ max_replicas version
    → usable ≡ cond (is_paired p i) (machines p / 2) (machines p)
    → upper p i ≡ min most usable
unfolding upper
upper_is p i version most usable v m u =
    rw (m, v, u)
    (sym (cond-min (is_paired p i) (max_replicas p.version) (machines p / 2) (machines p)))
  where
    cond-min : (b : Bool) (n x y : ℕ) → min n (cond b x y) ≡ cond b (min n x) (min n y)
    cond-min true n x y = refl
    cond-min false n x y = refl

pub returns : goal.returns
returns c = (
  λ p i v m e. c.min.ensures ∙ sym (upper_is p i _ _ _ v c.max_replicas.ensures.0 (c.machines_for.ensures.0 p i m e)),
  omega (arith, c.min.ensures, c.max_replicas.ensures.1),
)
