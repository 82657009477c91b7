-- The pieces of the new file.
use Rattle.std.specs.Prelude.{List, ℕ}
use Rattle.order.specs.Table.{joined}
use Rattle.model.specs.Plan.{Plan, block_count, block_of, Format}
use Rattle.model.specs.Writing.{record_bytes}

-- The new records of a plan.
abbrev pub new_records : Format → Plan → List ℕ
new_records f p = joined (block_count p) (λ i. record_bytes f (block_of p i))
