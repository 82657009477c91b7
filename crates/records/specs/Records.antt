-- Whose blocks some records are.
use Rattle.std.specs.Prelude.{◌≡◌, List, ℕ, ◌<◌}
use Rattle.model.specs.Plan.{Plan, block_count, block_of, Format, block_in}

-- They are the blocks of plan p.
abbrev pub RecordsOf : Plan → Format → List ℕ → Type 0
RecordsOf p f bytes = (i : ℕ) → i < block_count p → block_of p i ≡ block_in f bytes i
