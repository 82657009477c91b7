-- Document 01, "Counts and shares": the sum of all loads.
use Rattle.std.specs.Prelude.{◌≡◌, List, ℕ, ◌*◌}
use Rattle.order.specs.Sum.{sum}
use Rattle.model.specs.Plan.{Plan, block_count, block_of}
use Rattle.model.specs.Replication.{unit}
use Rattle.model.specs.Placement.{Feasible, total_load_of}
use Rattle.theory.specs.Refusal.{Valid}

-- It is 2520 times the sum of all popularities, whichever lawful counts are used.
abbrev pub LoadsTotal : Type 0
LoadsTotal =
    (p : Plan) → Valid p → (count : ℕ → ℕ) (words : List ℕ) → Feasible p count words
    → total_load_of p words ≡ unit * sum (block_count p) (λ i. (block_of p i).popularity)
