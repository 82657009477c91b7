-- `service::first` meets its contract: refused by the way in, or the first placement laid down.
-- Assumes nothing.
use mathlib.Core.Path.{ap₂, ◌∙◌}
use Rattle.model.specs.Calls.{first_call, answered}
use Rattle.cluster.proofs.Laws.{cluster-blocks}
use Rattle.std.proofs.lemmas.Result.{err_from_is_err_and}
use Rattle.service.specs.Entries.{first_outcome}
use Rattle.service.proofs.Laws.{plan-refused, plan-made}
use Rattle.admission.proofs.Laws.{fits-of}
use mathlib.Core.List.{List}
use Prim.Native.Nat.{ℕ}
use Rattle.service.proofs.first.Goals as goal

pub returns-in_err-intake : goal.returns-in_err-intake
unfolding first_outcome first_call
returns-in_err-intake c =
    let p = err_from_is_err_and c.from_residual.result c.from_residual.ensures.1 in
    rw (p.1, p.2) (plan-refused _ _ _ _ c.in_err-intake.ensures)

pub lay_all-requires : goal.lay_all-requires
lay_all-requires c =
    let ready = c.in_ok-intake.ensures in
    record { fits = fits-of _ _ _ _ ready; plan = _; profiles-of = ready.prepared.profiles-of }

pub returns : goal.returns
unfolding first_outcome first_call
returns c =
    let ready = c.in_ok-intake.ensures in
    let of = ready.prepared.profiles-of in
    ap₂ (λ (n : ℕ) (s : List ℕ). record { answer = answered n; items = s }) (cluster-blocks _ _ of.cluster) (c.lay_all.ensures _ of)
    ∙ plan-made _ _ _ _ _ ready
