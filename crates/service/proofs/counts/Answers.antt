-- `service::counts` meets its contract: refused by the way in, or the chosen counts written.
-- Assumes nothing.
use mathlib.Core.Path.{ap₂, ◌∙◌}
use mathlib.Core.List.{List}
use Prim.Native.Nat.{ℕ}
use Rattle.model.specs.Calls.{counts_call, answered}
use Rattle.cluster.proofs.Laws.{cluster-blocks}
use Rattle.std.proofs.lemmas.Result.{err_from_is_err_and}
use Rattle.service.specs.Entries.{counts_outcome}
use Rattle.service.proofs.Laws.{plan-refused, plan-made, counts-are}
use Rattle.service.proofs.counts.Goals as goal

pub returns-in_err-intake : goal.returns-in_err-intake
unfolding counts_outcome counts_call
returns-in_err-intake c =
    let p = err_from_is_err_and c.from_residual.result c.from_residual.ensures.1 in
    rw (p.1, p.2) (plan-refused _ _ _ _ c.in_err-intake.ensures)

pub write_counts-requires : goal.write_counts-requires
write_counts-requires c =
    let ready = c.in_ok-intake.ensures in
    record { profile-room = ready.prepared.fit.room; count_room = rw (cluster-blocks _ _ ready.prepared.profiles-of.cluster) ready.enough }

pub returns : goal.returns
unfolding counts_outcome counts_call
returns c =
    let ready = c.in_ok-intake.ensures in
    ap₂ (λ (n : ℕ) (s : List ℕ). record { answer = answered n; items = s }) ready.prepared.top-is
    (c.write_counts.ensures ∙ counts-are _ _ _ _ _ ready)
    ∙ plan-made _ _ _ _ _ ready
