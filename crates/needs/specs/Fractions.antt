-- When a popularity and a count are a fraction that is a share.
use Rattle.std.specs.Prelude.{ℕ, ◌≤◌}
use Rattle.theory.specs.Widths.{most_replicas, popularity_bound}

-- A popularity, or the least number that is none, and a count in its range.
pub record FractionFits (popularity count : ℕ) : Type 0 where
  pub popularity-max : popularity ≤ popularity_bound
  pub count-pos : 1 ≤ count
  pub count-max : count ≤ most_replicas
