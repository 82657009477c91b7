-- The records of a whole file.
use Rattle.std.specs.Prelude.{◌≡◌}
use Rattle.model.specs.Plan.{block_count_in, format_in}
use Rattle.header.specs.Format.{as_format}
use Rattle.records.specs.declared.view.Records.{Records}

-- They have the format that the bytes' own header gives, and are as many as it says.
pub record OfFile (r : Records) : Type 0 where
  pub format-is : as_format r.format ≡ format_in r.bytes.now
  pub blocks-are : r.blocks ≡ block_count_in r.bytes.now
