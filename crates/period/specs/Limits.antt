-- What a period may hold. The limits of the battery's rating stand with the battery.
use Rattle.std.specs.Prelude.{ℕ}

-- the most half-hours: 366 days of them
abbrev pub most_half_hours : ℕ
most_half_hours = 17568

-- the most types that it has readings for
abbrev pub most_types : ℕ
most_types = 4

-- the most that one home demands or has generated for it in a half-hour, in watt-hours, and the highest tariff, in hundredths of a penny for 1,000 watt-hours
abbrev pub most_value : ℕ
most_value = 20000
