-- `balance::step` meets its contract: the step that was found is taken.
-- Assumes nothing.
use mathlib.Core.Path.{ap, ◌∙◌}
use Rattle.model.specs.Steps.{after}
use Rattle.search.specs.Scene.{step_of}
use Rattle.balance.proofs.step.Goals as goal

pub returns-in_err-step : goal.returns-in_err-step
unfolding step_of after
returns-in_err-step c p count at =
    let next = c.in_err-step.ensures.0.is p count at in
    rw c.from_residual.ensures (record { step_is = next; words_are = ap (after c.args.words.now) next })

pub returns : goal.returns
returns c p count at =
    let next = c.in_ok-step.ensures.0.is p count at in
    record { step_is = next; words_are = c.follow.ensures.words_are ∙ ap (after _) next }
