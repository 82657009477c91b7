-- `readlog::append` meets its contract: a place is refused exactly if it is not below the span.
-- Assumes nothing.
use Rattle.std.proofs.Common.{◌≡◌, ℕ, List, refl, cond, Ok, Err}
use mathlib.Core.Bool.{Bool, true, false}
use Rattle.model.specs.declared.Entry.{Entry}
use Rattle.refusal.specs.declared.Refusal.{Refusal}
use Rattle.readlog.specs.Records.{appended}
use Rattle.readlog.proofs.append.Goals as goal

stays : (list stored : List Entry) (room : Bool) (n : ℕ) (refusal full : Refusal) → Err refusal ≡ cond room (Ok n) (Err full)
    → list ≡ cond room stored list
stays list stored true n refusal full is = absurd (cc)
stays list stored false n refusal full is = refl

stores : (list stored : List Entry) (room : Bool) (n k : ℕ) (full : Refusal) → Ok k ≡ cond room (Ok n) (Err full)
    → stored ≡ cond room stored list
stores list stored true n k full is = refl
stores list stored false n k full is = absurd (cc)

pub returns-in_err-count-clause-list : goal.returns-in_err-count-clause-list
unfolding appended
returns-in_err-count-clause-list c = stays _ _ _ _ _ _ c.in_err-count.ensures

pub returns-clause-list : goal.returns-clause-list
unfolding appended
returns-clause-list c = stores _ _ _ _ _ _ c.in_ok-count.ensures
