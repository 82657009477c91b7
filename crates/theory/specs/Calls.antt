-- What the way in answers of a call, before the call itself is made.
use Rattle.std.specs.Prelude.{ℕ}
use Rattle.model.specs.Plan.{Plan}
use Rattle.model.specs.Refusal.{Verdict, refused, accepted}

-- The refusal code of a call: the plan's, else that of the call's own rows; 0 for none.
unfoldable pub call_refusal : Verdict → (Plan → ℕ) → ℕ
call_refusal (refused code) rows = code
call_refusal (accepted p) rows = rows p
