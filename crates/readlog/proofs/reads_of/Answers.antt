-- `readlog::reads_of` meets its contract: after i records the number found is how often the block stands among them.
-- Assumes nothing.
use Rattle.std.proofs.Common.{◌≡◌, ◌<◌, ◌+◌, ◌*◌, ◌^◌, ℕ, Bool, true, false, nat_eq, cond, length, get_or, refl, sym, ap, ◌∙◌, arith}
use Rattle.std.specs.Int.{from_bool}
use Rattle.model.specs.ReadLog.{no_entry}
use Rattle.readlog.proofs.CountLaws.{at_most_one, tallied, reads_of-[], reads_of-take, reads_of-le}
use Rattle.readlog.proofs.reads_of.Goals as goal

-- the record counts if it is the block's
counted : (n found block more : ℕ) → more ≡ from_bool (nat_eq found block) → n + more ≡ tallied n found block
counted n found block more adds = rw adds (by-test (nat_eq found block))
  where
    by-test : (b : Bool) → n + from_bool b ≡ cond b (n + 1) n
    by-test true = refl
    by-test false = omega arith

pub loop-i-init : goal.loop-i-init
loop-i-init c = record { within = omega arith; found = sym (reads_of-[] c.args.block) }

pub overflow_add-found : goal.overflow_add-found
overflow_add-found c =
    let room : length c.args.list.now * 8 < 2 ^ 63 = c.well_formed.0.1 in
    let more = at_most_one _ _ c.from-found.ensures in
    omega (arith, reads_of-le c.args.block c.args.list.now c.loop-i.i, c.loop-i.invariant.found, more)

pub loop-i-preserved : goal.loop-i-preserved
loop-i-preserved c = record {
  within = omega arith;
  found =
      counted _ _ _ _ c.from-found.ensures
      ∙ ap (λ n. tallied n (get_or c.args.list.now c.loop-i.i no_entry).block c.args.block) c.loop-i.invariant.found
      ∙ sym (reads_of-take c.args.block c.args.list.now c.loop-i.i (omega arith));
}
