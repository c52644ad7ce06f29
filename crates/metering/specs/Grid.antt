-- What the grid charges.
use Rattle.std.specs.Prelude.{◌*◌, List, [], ◌∷◌, ℤ, pos, ◌+ℤ◌, ◌-ℤ◌}
use Rattle.std.specs.Int.{int_div_euclid}
use Rattle.metering.specs.Limits.{unit}
use Rattle.metering.specs.declared.half_hour.HalfHour.{HalfHour}

-- one half-hour: its import times the import tariff, less its export times the export tariff; in thousandths of a hundredth of a penny, since tariffs are for 1,000 watt-hours
abbrev pub amount : HalfHour → ℤ
amount h = pos (h.import * h.tariffs.import) -ℤ pos (h.export * h.tariffs.export)

-- all half-hours
abbrev pub grid_sum : List HalfHour → ℤ
grid_sum [] = pos 0
grid_sum (h ∷ hs) = amount h +ℤ grid_sum hs

-- divided once, and rounded down
abbrev pub grid_cost : List HalfHour → ℤ
grid_cost hs = int_div_euclid (grid_sum hs) (pos unit)
