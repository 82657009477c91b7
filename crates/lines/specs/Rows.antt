-- What the lines are given and say, in the model's terms.
use Rattle.std.specs.Prelude.{true, false, List, [], ◌∷◌, ◌++◌, ℕ, get_or}
use Rattle.order.specs.Table.{joined}
use Rattle.model.specs.Refusal.{max_machines}
use Rattle.model.specs.Listing.{line, plan_word, block_word, holders, end_word}
use Rattle.cluster.specs.declared.Cluster.{Cluster}
use Rattle.cluster.specs.Blocks.{share_in, count_in}
use Rattle.balance.specs.declared.Ran.{Ran}
use Rattle.balance.specs.declared.Ran.TheVariants.{Rested, Spent}
use Rattle.lines.specs.declared.FirstRun.{FirstRun}

-- A block line from the block's numbers and word, and from its profile.
unfoldable pub number_row : ℕ → ℕ → ℕ → ℕ → List ℕ
number_row i count share word = line block_word (i ∷ count ∷ share ∷ holders word max_machines)

abbrev pub block_row : ℕ → ℕ → ℕ → List ℕ
block_row i profile word = number_row i (count_in profile) (share_in profile) word

-- The line of block i, from the lists of all blocks.
unfoldable pub row_at : List ℕ → List ℕ → ℕ → List ℕ
row_at profiles words i = block_row i (get_or profiles i 0) (get_or words i 0)

-- The first line, the block lines and the last line, from their numbers.
abbrev pub first_row : Cluster → List ℕ
first_row c = line plan_word (c.racks ∷ c.rack_size ∷ c.blocks ∷ [])

abbrev pub rows : Cluster → List ℕ → List ℕ → List ℕ
rows c profiles words = joined c.blocks (row_at profiles words)

-- The last line from its word and the number of steps; by how the run ended.
abbrev pub number_end : List ℕ → ℕ → FirstRun → List ℕ
number_end word steps r = line word (steps ∷ r.report.max_load ∷ r.report.min_load ∷ r.report.total_load ∷ r.top ∷ [])

unfoldable pub ended_row : Ran → FirstRun → List ℕ
ended_row (Rested steps) r = number_end (end_word true) steps r
ended_row (Spent steps) r = number_end (end_word false) steps r

abbrev pub end_row : FirstRun → List ℕ
end_row r = ended_row r.ran r

abbrev pub all_rows : Cluster → List ℕ → List ℕ → FirstRun → List ℕ
all_rows c profiles words r = (first_row c ++ rows c profiles words) ++ end_row r
