-- Document 01, "Listing of the program": how long the listing of a plan gets.
use Rattle.std.specs.Prelude.{ℕ, ◌<◌, ◌≤◌, ◌^◌, length}
use Rattle.model.specs.Plan.{Plan, block_count, block_of}
use Rattle.model.specs.Replication.{share, chosen}
use Rattle.model.specs.Listing.{listing_of, listing_room}
use Rattle.theory.specs.Refusal.{Valid}
use Rattle.theory.specs.Widths.{share_bound}

-- The listing of an accepted plan fits, where its shares are in their bound and the step limit has 32 bits.
abbrev pub ListingFits : Type 0
ListingFits =
    (p : Plan) → Valid p
    → ((i : ℕ) → i < block_count p → share (block_of p i).popularity (chosen p i) < share_bound)
    → (limit : ℕ) → limit < 2 ^ 32 → length (listing_of p limit) ≤ listing_room
