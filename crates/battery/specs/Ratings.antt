-- The limits of a battery's rating, for one home.
use Rattle.std.specs.Prelude.{ℕ, ◌≤◌}
use Rattle.battery.specs.declared.rating.Rating.{Rating}

-- the most that it may hold, in watt-hours
abbrev pub most_charge : ℕ
most_charge = 100000

-- the most that it may move in a half-hour, in watt-hours
abbrev pub most_moved : ℕ
most_moved = 50000

-- the highest efficiency, in percent
abbrev pub whole : ℕ
whole = 100

-- a rating within its limits
pub record Rated (b : Rating) : Type 0 where
  pub ordered : b.lowest ≤ b.highest
  pub small : b.highest ≤ most_charge
  pub slow : b.most ≤ most_moved
  pub charges : 1 ≤ b.charging
  pub stores : b.charging ≤ whole
  pub discharges : 1 ≤ b.discharging
  pub yields : b.discharging ≤ whole
