-- `service::check` meets its contract: refused by the way in, or the number of blocks.
-- Assumes nothing.
use mathlib.Core.Path.{ap, ◌∙◌}
use Prim.Native.Nat.{ℕ}
use Rattle.model.specs.Calls.{check_call, answered}
use Rattle.cluster.proofs.Laws.{cluster-blocks}
use Rattle.std.proofs.lemmas.Result.{err_from_is_err_and}
use Rattle.service.specs.Entries.{check_outcome}
use Rattle.service.proofs.Laws.{placement-refused, placement-made}
use Rattle.service.proofs.check.Goals as goal

pub returns-in_err-held : goal.returns-in_err-held
unfolding check_outcome check_call
returns-in_err-held c =
    let p = err_from_is_err_and c.from_residual.result c.from_residual.ensures.1 in
    rw (p.1, p.2) (placement-refused _ _ _ _ c.in_err-held.ensures)

pub returns : goal.returns
unfolding check_outcome check_call
returns c =
    let ready = c.in_ok-held.ensures in
    ap (λ (n : ℕ). record { answer = answered n; items = c.args.words.now }) (cluster-blocks _ _ ready.prepared.profiles-of.cluster)
    ∙ placement-made _ _ _ _ _ ready
