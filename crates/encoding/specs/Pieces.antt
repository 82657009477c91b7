-- The pieces of a plan's file, and what their writers are given.
use Rattle.std.specs.Prelude.{◌≡◌, List, ◌++◌, ℕ, ◌≤◌, length, get_or}
use Rattle.order.specs.Table.{joined}
use Rattle.model.specs.Plan.{Format}
use Rattle.model.specs.Refusal.{mark}
use Rattle.model.specs.Writing.{bytes_of}
use Rattle.text.specs.Pasted.{Room}
use Rattle.header.specs.declared.Header.{Header}

-- Numbers one after the other, each in its width.
abbrev pub number_at : List ℕ → List ℕ → ℕ → List ℕ
number_at widths numbers i = bytes_of (get_or widths i 0) (get_or numbers i 0)

unfoldable pub numbers_bytes : List ℕ → List ℕ → List ℕ
numbers_bytes widths numbers = joined (length widths) (number_at widths numbers)

-- The header of a version, in its format, with a read header's fields.
unfoldable pub header_with : ℕ → Format → Header → List ℕ
header_with version f h =
    bytes_of 3 mark
    ++ bytes_of 2 version
    ++ bytes_of 1 h.cluster.racks
    ++ bytes_of 1 h.cluster.rack_size
    ++ bytes_of f.feeds_width h.cluster.feeds
    ++ bytes_of 2 h.cluster.capacity
    ++ bytes_of 4 h.budget
    ++ bytes_of 2 h.cluster.blocks

-- A few numbers, as many as widths, and room for them.
pub record NumbersAsked (at : ℕ) (widths numbers buffer : List ℕ) : Type 0 where
  pub few : length widths ≤ 8
  pub as_many : length numbers ≡ length widths
  pub room : Room at (numbers_bytes widths numbers) buffer
