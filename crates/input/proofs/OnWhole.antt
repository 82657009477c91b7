-- What is got from the bytes that came is got from the whole input, where a full buffer alone decides.
-- Assumes nothing.
use Rattle.std.proofs.Common.{◌≡◌, ℕ, List, None, Some, arith, length, take, ap, ◌∙◌, take_all}
use native.Mathlib.Decide.{dec_lt}
use Rattle.std.specs.declared.option.Option.{Option}
use Rattle.model.specs.Listing.{input_room}
use Rattle.input.specs.Input.{on_input, InputIs, ByFirstBytes, OnWhole}

module _ {A : Type 0} (none : A) (f : List ℕ → A) (decided : ByFirstBytes f) where
  first-bytes : (whole : List ℕ) → f (take input_room whole) ≡ f whole
  first-bytes whole = elim (dec_lt (length whole) input_room) [
    | yes short ↦ ap f (take_all input_room whole (omega arith))
    | no enough ↦ decided whole (omega arith)
  ]

  same : (came : Option (List ℕ)) (whole : List ℕ) → InputIs came whole → on_input none f came ≡ f whole
  unfolding on_input InputIs
  same None whole is = absurd is
  same (Some bytes) whole is = ap f is ∙ first-bytes whole

pub on-whole : OnWhole
on-whole A none f decided came whole is = same none f decided came whole is
