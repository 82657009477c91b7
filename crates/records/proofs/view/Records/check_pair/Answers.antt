-- `records::Records::check_pair` meets its contract: the row's tests decide.
-- Assumes nothing.
use mathlib.Core.Path.{◌≡◌}
use Prim.Native.Nat.{ℕ, ◌+◌}
use native.Mathlib.Numerals.{add-one}
use native.Mathlib.Omega.{arith}
use lib.Dec.{eqb}
use Rattle.std.proofs.lemmas.Bool.Decides.{nat_tests}
use Rattle.model.specs.Plan.{Plan, block_count, block_of}
use Rattle.model.specs.Refusal.{check17, pair_refusal}
use Rattle.records.proofs.view.Records.check_pair.Goals as goal

-- what is judged of a block
judged : (p : Plan) (i : ℕ) → pair_refusal p i ≡ check17 (block_of p i) (block_of p (i + 1)) (eqb (i + 1) (block_count p)) 0
unfolding pair_refusal
judged p i = rw (add-one i)

pub returns-then-byte-eq0 : goal.returns-then-byte-eq0
unfolding check17
returns-then-byte-eq0 c p of count =
    let here = of c.args.i (rw (← count) c.requires) in
    rw (judged p c.args.i, here) (grind (arith, nat_tests))

pub returns-then-byte-gt1 : goal.returns-then-byte-gt1
unfolding check17
returns-then-byte-gt1 c p of count =
    let here = of c.args.i (rw (← count) c.requires) in
    rw (judged p c.args.i, here) (grind (arith, nat_tests))

pub returns : goal.returns
unfolding check17
returns c p of count =
    let here = of c.args.i (rw (← count) c.requires) in
    rw (judged p c.args.i, here) (grind (arith, nat_tests))
