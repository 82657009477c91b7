-- The widths of a new file's fields, in the code's struct.
use Rattle.model.specs.Plan.{Format}
use Rattle.encoding.specs.declared.Widths.{Widths}

-- The struct as the model's format.
abbrev pub as_widths : Widths → Format
as_widths w =
    record {
      feeds_width = w.feeds_width;
      popularity_width = w.popularity_width;
      min_replicas_width = w.min_replicas_width;
      min_domains_width = w.min_domains_width;
      pair_byte_width = w.pair_byte_width;
    }
