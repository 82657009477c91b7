use Rattle.std.proofs.Common.{◌≡◌, ◌+◌, get_or, set, sym, ap, ap₂, ◌∙◌, ℕ, List, Bool, true, false, cond, refl, arith}
use Rattle.std.specs.Int.{from_bool}
use Rattle.model.specs.declared.Entry.{Entry}
use Rattle.model.specs.ReadLog.{no_entry}
use Rattle.readwindow.specs.Window.{is_current, kept_with}
use Rattle.readlog.specs.Records.{Swept, sweep, swept}
use Rattle.readlog.proofs.CountLaws.{at_most_one}
use Rattle.readlog.proofs.SweptLaws.{swept_none, swept-next}
use Rattle.readlog.proofs.compact.Goals as goal

-- the entry counts if it is in the window
kept_more : (kept now tick more : ℕ) (test : Bool) → more ≡ from_bool test → test ≡ is_current now tick → kept + more ≡ kept_with kept now tick
unfolding kept_with
kept_more kept now tick more test adds is = rw (adds, is) (by-test (is_current now tick))
  where
    by-test : (b : Bool) → kept + from_bool b ≡ cond b (kept + 1) kept
    by-test true = refl
    by-test false = omega arith

-- a turn is one more sweep
list-next : (tick kept i : ℕ) (list list' : List Entry) → list' ≡ (swept tick list i).list → kept ≡ (swept tick list i).kept
    → set list' kept (get_or list' i no_entry) ≡ (swept tick list (i + 1)).list
unfolding sweep
list-next tick kept i list list' same count =
    ap₂ (λ (l : List Entry) (k : ℕ). set l k (get_or l i no_entry)) same count ∙ sym (ap (λ (s : Swept). s.list) (swept-next tick list i))

kept_next : (tick kept i : ℕ) (list list' : List Entry) → list' ≡ (swept tick list i).list → kept ≡ (swept tick list i).kept
    → kept_with kept tick (get_or list' i no_entry).tick ≡ (swept tick list (i + 1)).kept
unfolding sweep
kept_next tick kept i list list' same count =
    ap₂ (λ (l : List Entry) (k : ℕ). kept_with k tick (get_or l i no_entry).tick) same count ∙ sym (ap (λ (s : Swept). s.kept) (swept-next tick list i))

pub loop-i-init : goal.loop-i-init
loop-i-init c =
    let none = sym (swept_none c.args.tick c.args.list.now) in
    record { most = omega arith; list_is = ap (λ (s : Swept). s.list) none; kept_is = ap (λ (s : Swept). s.kept) none }

pub loop-i-preserved : goal.loop-i-preserved
loop-i-preserved c = record {
  most = let one = at_most_one c.from-kept.result c.is_current.result c.from-kept.ensures in omega (arith, one);
  list_is = list-next _ _ _ _ _ c.loop-i.invariant.list_is c.loop-i.invariant.kept_is;
  kept_is =
      kept_more _ _ _ _ _ c.from-kept.ensures c.is_current.ensures
      ∙ kept_next _ _ _ _ _ c.loop-i.invariant.list_is c.loop-i.invariant.kept_is;
}
