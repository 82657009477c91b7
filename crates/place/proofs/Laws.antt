-- Where what is printed lies in the lent text.
-- Assumes nothing.
use mathlib.Core.Path.{◌≡◌, ◌∙◌}
use mathlib.Core.List.{List}
use Prim.Native.Nat.{ℕ, ◌≤◌}
use lib.ListN.{length, take}
use Rattle.model.specs.Listing.{printed, step_limit, listing_room, print_call}
use Rattle.theory.proofs.Listing.{wrote-size, wrote-part, wrote-never, print_call-made}
use Rattle.listing.specs.Entries.{listing_outcome}
use Rattle.std.proofs.Common.{Ok, Err}
use Rattle.refusal.specs.declared.Refusal.{Refusal}
use Rattle.refusal.specs.Rows.{number_of}

-- ── print_call ────────────────────────────────────────────────────────────────────────────────────
module _ (bytes text after : List ℕ) (enough : listing_room ≤ length text) where
  -- a text with room is never refused
  pub print_call-never : (refusal : Refusal) → listing_outcome (Err refusal) after ≡ print_call bytes step_limit text → ⊥
  unfolding listing_outcome
  print_call-never refusal e = wrote-never (printed bytes step_limit) text after (number_of refusal) (e ∙ print_call-made bytes text step_limit enough)

  module _ (size : ℕ) (e : listing_outcome (Ok size) after ≡ print_call bytes step_limit text) where
    pub print_call-size : size ≡ length (printed bytes step_limit)
    unfolding listing_outcome
    print_call-size = wrote-size (printed bytes step_limit) text after size (e ∙ print_call-made bytes text step_limit enough)

    -- the text begins with what is printed
    pub print_call-part : take size after ≡ printed bytes step_limit
    unfolding listing_outcome
    print_call-part = wrote-part (printed bytes step_limit) text after size (e ∙ print_call-made bytes text step_limit enough)
