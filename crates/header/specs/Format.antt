-- The format of a version's file, in the code's struct.
use Rattle.model.specs.Plan.{Format as ModelFormat}
use Rattle.header.specs.declared.formats.Format.{Format}

-- The struct as the model's format.
abbrev pub as_format : Format → ModelFormat
as_format f =
    record {
      feeds_width = f.feeds_width;
      popularity_width = f.popularity_width;
      min_replicas_width = f.min_replicas_width;
      min_domains_width = f.min_domains_width;
      pair_byte_width = f.pair_byte_width;
    }
