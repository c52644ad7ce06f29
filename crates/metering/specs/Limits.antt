-- How much a tariff and a price are for, and what a price may be.
use Rattle.std.specs.Prelude.{ℕ}

-- a tariff is for so many watt-hours, and the price of a peak for so many watts
abbrev pub unit : ℕ
unit = 1000

-- the highest price, in hundredths of a penny
abbrev pub most_price : ℕ
most_price = 1000000
