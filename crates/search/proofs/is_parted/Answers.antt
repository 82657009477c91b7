-- `search::is_parted` meets its contract: within its turn of the domains a machine lies in its domain's first rack.
-- Assumes nothing.
use mathlib.Core.Path.{◌≡◌, ap, ap₂, sym, ◌∙◌}
use mathlib.Core.Bool.{not}
use Prim.Native.Nat.{ℕ, ◌*◌, ◌/◌, ◌%◌}
use native.Mathlib.Nat.{mod-lt, mul-div_cancel, mul-le-mul_right}
use native.Mathlib.Omega.{arith}
use lib.Dec.{eqb}
use Rattle.cluster.specs.Cluster.{domain_in}
use Rattle.cluster.proofs.Laws.{range-turn, range-turn-pos}
use Rattle.search.proofs.Laws.{true-beq, turn-domain, turn-base}
use Rattle.search.proofs.is_parted.Goals as goal

pub of_kind-requires : goal.of_kind-requires
of_kind-requires c =
    let range = c.requires in
    record {
      size-pos = range.size-pos;
      low-max = omega (arith, c.wrapped.ensures, mod-lt c.args.low (range-turn-pos _ range), range-turn _ range, range.machines-max);
      size-max = omega (arith, mul-le-mul_right c.args.cluster.rack_size range.racks-pos, range.machines-max);
    }

pub returns : goal.returns
returns c m low-is =
    let k = c.args.cluster in
    let size = k.rack_size in
    let turn = k.feeds * size in
    let range = c.requires in
    let first = c.wrapped in
    let base : first.result ≡ domain_in k m * size = first.ensures ∙ ap (λ (n : ℕ). n % turn) low-is ∙ turn-base k range m in
    let rack : first.result / size ≡ domain_in k m = ap (λ (n : ℕ). n / size) base ∙ mul-div_cancel (domain_in k m) range.size-pos in
    let other : c.wrapped-2.result / size ≡ domain_in k c.args.n =
    ap (λ (n : ℕ). n / size) c.wrapped-2.ensures ∙ turn-domain k range c.args.n
    in
    c.of_kind.ensures first.result (base ∙ ap (λ (q : ℕ). q * size) (sym rack))
    ∙ true-beq _
    ∙ ap₂ (λ (x y : ℕ). not (eqb x y)) rack other
