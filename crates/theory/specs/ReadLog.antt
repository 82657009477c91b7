-- Document 02, U2: "Ages are taken modulo 2 to the power 32, assuming successive accepted reads less than 2 to the power 31 apart."
use Rattle.std.specs.Prelude.{◌≡◌, ℕ, ◌+◌, ◌-◌, ◌%◌, ◌<◌, ◌≤◌}
use Rattle.model.specs.ReadLog.{tick_bound, age, gap_bound}

pub record AgeLaws : Type 0 where
  -- The age of a true time's tick is the time since, modulo 2 to the power 32.
  pub modular : (since now : ℕ) → since ≤ now → age (now % tick_bound) (since % tick_bound) ≡ (now - since) % tick_bound
  -- It is the one number below 2 to the power 32 that leads from the tick to now.
  pub bound : (now tick : ℕ) → age now tick < tick_bound
  pub leads : (now tick : ℕ) → now < tick_bound → tick < tick_bound → (age now tick + tick) % tick_bound ≡ now
  pub unique : (now tick r : ℕ) → now < tick_bound → tick < tick_bound → r < tick_bound → (r + tick) % tick_bound ≡ now → r ≡ age now tick
  -- Ages add up while their sum is below 2 to the power 32, and so those of successive reads less than 2 to the power 31 apart.
  pub adds : (first second third : ℕ) → first < tick_bound → second < tick_bound → third < tick_bound
      → age second first + age third second < tick_bound → age third first ≡ age second first + age third second
  pub successive : (first second third : ℕ) → first < tick_bound → second < tick_bound → third < tick_bound
      → age second first < gap_bound → age third second < gap_bound → age third first ≡ age second first + age third second
