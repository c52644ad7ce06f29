-- What the highest half-hour costs.
use Rattle.std.specs.Prelude.{◌≡◌, ℕ, ◌-◌, ◌*◌, ◌/◌, max, ◌⊎◌, List, [], ◌∷◌, ℤ, pos, ◌-ℤ◌, ◌≤ℤ◌}
use Rattle.metering.specs.Limits.{unit}
use Rattle.metering.specs.declared.half_hour.HalfHour.{HalfHour}

-- the most that demand exceeds generation by, before the battery; 0 if it never does
abbrev pub peak : List HalfHour → ℕ
peak [] = 0
peak (h ∷ hs) = max (h.demand - h.generation) (peak hs)

-- the peak in watts, which is twice its watt-hours in a half-hour, times a price for 1,000 watts: divided and rounded down
abbrev pub peak_cost : ℕ → List HalfHour → ℤ
peak_cost price hs = pos (2 * peak hs * price / unit)

-- ---- what a peak is

-- what a half-hour lacks; below 0 where it has left over
abbrev pub lacks : HalfHour → ℤ
lacks h = pos h.demand -ℤ pos h.generation

-- p is at least what any half-hour lacks
abbrev pub AtLeastAll : ℕ → List HalfHour → Type 0
AtLeastAll p [] = Unit {0}
AtLeastAll p (h ∷ hs) = (lacks h ≤ℤ pos p) × AtLeastAll p hs

-- p is what some half-hour lacks, or 0
abbrev pub OneOfThem : ℕ → List HalfHour → Type 0
OneOfThem p [] = p ≡ 0
OneOfThem p (h ∷ hs) = (pos p ≡ lacks h) ⊎ OneOfThem p hs
