-- `transfers::find_at` meets its contract: the definition's tests at block i are those of `movable`, `is_free` and `first_exchange`.
-- Assumes nothing.
use mathlib.Core.Path.{sym, ◌∙◌}
use native.Mathlib.Omega.{arith}
use Rattle.order.proofs.Booleans.{no-contradiction, not_so}
use Rattle.cluster.proofs.Laws.{cluster-blocks, placement-block}
use Rattle.transfers.specs.Route.{hit_of}
use Rattle.transfers.proofs.Laws.{candidate-shift, block_step-none, block_step-move, block_step-swap, lies_at, move-told}
use Rattle.transfers.proofs.find_at.Goals as goal

pub returns-in_err-j : goal.returns-in_err-j
unfolding hit_of
returns-in_err-j c =
    rw c.from_residual.ensures
    (record {
      sound = λ across. tt;
      is = λ p count scene room across.
          let blocks = cluster-blocks p _ scene.placement.profiles-of.cluster in
          sym (block_step-none p _ _ _ _ _ _ (λ e. no-contradiction (sym c.if-swapping.true ∙ e))
          (λ e j l. c.in_err-j.ensures j (omega arith) p count scene));
    })

pub returns-then-swapping : goal.returns-then-swapping
unfolding hit_of
returns-then-swapping c =
    let asked = c.requires in
    let found = c.in_ok-j.ensures in
    let j = c.in_ok-j.j in
    record {
      sound = λ across. (
        candidate-shift asked,
        record {
          m-below = asked.route-in.n-below;
          n-below = asked.route-in.m-below;
          i-below = found.below;
          holds = found.holds;
          lacks = found.lacks;
        },
      );
      is = λ p count scene room across.
          sym (block_step-swap p _ _ _ _ _ _ c.if-swapping.true j (placement-block p count _ _ _ scene.placement j found.below)
          (λ k l. found.passed k l p count scene) (found.found p count scene));
    }

pub returns-then-not-movable : goal.returns-then-not-movable
unfolding hit_of
returns-then-not-movable c =
    let asked = c.requires in
    let i = c.args.i in
    let moves = c.if-swapping.false in
    record {
      sound = λ across. tt;
      is = λ p count scene room across.
          let told = move-told p count _ _ _ _ scene asked.route-in i asked.i-below asked.holds asked.lacks (room moves) in
          let test = c.movable.ensures p (lies_at p count _ _ _ scene.placement i asked.i-below) in
          sym (block_step-none p _ _ _ _ _ _
          (λ e. not_so _ (λ t. no-contradiction (sym (test.1 (told.0 t).0) ∙ c.if-not-movable.true)))
          (λ e. no-contradiction (sym e ∙ moves)));
    }

pub returns-then-not-is_free : goal.returns-then-not-is_free
unfolding hit_of
returns-then-not-is_free c =
    let asked = c.requires in
    let i = c.args.i in
    let moves = c.if-swapping.false in
    record {
      sound = λ across. tt;
      is = λ p count scene room across.
          let told = move-told p count _ _ _ _ scene asked.route-in i asked.i-below asked.holds asked.lacks (room moves) in
          sym (block_step-none p _ _ _ _ _ _
          (λ e. not_so _ (λ t. no-contradiction (sym (c.is_free.ensures.1 (told.0 t).1) ∙ c.if-not-is_free.true)))
          (λ e. no-contradiction (sym e ∙ moves)));
    }

pub returns : goal.returns
unfolding hit_of
returns c =
    let asked = c.requires in
    let i = c.args.i in
    let moves = c.if-swapping.false in
    record {
      sound = λ across. candidate-shift asked;
      is = λ p count scene room across.
          let told = move-told p count _ _ _ _ scene asked.route-in i asked.i-below asked.holds asked.lacks (room moves) in
          let test = c.movable.ensures p (lies_at p count _ _ _ scene.placement i asked.i-below) in
          sym (block_step-move p _ _ _ _ _ _ moves (told.1 (
            test.0 c.if-not-movable.false,
            c.is_free.ensures.0 c.if-not-is_free.false,
          )));
    }
