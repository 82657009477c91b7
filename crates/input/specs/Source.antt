-- What a source holds.
use Rattle.std.specs.Prelude.{List, ℕ, take}
use Rattle.input.specs.declared.source.Source.{Source}

-- The bytes that came: so many of the buffer.
abbrev pub source_bytes : Source → List ℕ
source_bytes s = take s.size s.buffer
