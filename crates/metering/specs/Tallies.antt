-- How large a half-hour can be, so that tallies do not overflow, and what a tally amounts to on its way. Only contracts inside the crate cite this.
use Rattle.std.specs.Prelude.{◌≡◌, ℕ, ◌+◌, ◌*◌, ◌/◌, ◌^◌, ◌<◌, ◌≤◌, max, List, [], ◌∷◌, All, ℤ, pos, ◌+ℤ◌, ◌-ℤ◌}
use Rattle.std.specs.Int.{int_div_euclid}
use Rattle.composition.specs.Counts.{most}
use Rattle.period.specs.Limits.{most_value}
use Rattle.period.specs.declared.reading.Reading.{Reading}
use Rattle.metering.specs.Grid.{grid_sum}
use Rattle.metering.specs.Limits.{unit}
use Rattle.metering.specs.Peak.{peak}
use Rattle.metering.specs.declared.half_hour.HalfHour.{HalfHour}

-- the most that a group demands or generates in a half-hour
abbrev pub most_energy : ℕ
most_energy = most * most_value

-- the demands of one home of each type, as a period gives them
abbrev pub DemandsSmall : List ℕ → Type 0
DemandsSmall = All (λ d. d ≤ most_value)

-- a half-hour of a period
pub record ReadingSmall (r : Reading) : Type 0 where
  pub demands_small : DemandsSmall r.demands
  pub generation_small : r.generation ≤ most_value
  pub import_small : r.tariffs.import ≤ most_value
  pub export_small : r.tariffs.export ≤ most_value

-- a half-hour of a walk
pub record Small (h : HalfHour) : Type 0 where
  pub demand_small : h.demand ≤ most_energy
  pub generation_small : h.generation ≤ most_energy
  pub import_small : h.import ≤ most_energy
  pub export_small : h.export ≤ most_energy
  pub import_tariff : h.tariffs.import ≤ most_value
  pub export_tariff : h.tariffs.export ≤ most_value

-- the most that a half-hour adds to what is paid, or to what is earned
abbrev pub most_added : ℕ
most_added = most_energy * most_value

-- a sum has room for so many half-hours more, and is small enough then for a signed number
abbrev pub Room : ℕ → ℕ → Type 0
Room sum n = sum + n * most_added < 2 ^ 62

-- the grid's cost, where so much was paid and so much earned before
abbrev pub grid_over : ℕ → ℕ → List HalfHour → ℤ
grid_over paid earned hs = int_div_euclid ((pos paid -ℤ pos earned) +ℤ grid_sum hs) (pos unit)

-- the peak's cost, where so much was lacking before
abbrev pub peak_over : ℕ → ℕ → List HalfHour → ℤ
peak_over price before hs = pos (2 * max before (peak hs) * price / unit)

-- ---- where nothing moves

-- nothing is demanded, generated, imported or exported in a half-hour
pub record Still (h : HalfHour) : Type 0 where
  pub demand_none : h.demand ≡ 0
  pub generation_none : h.generation ≡ 0
  pub import_none : h.import ≡ 0
  pub export_none : h.export ≡ 0

-- nor in any of these
abbrev pub Idle : List HalfHour → Type 0
Idle [] = Unit {0}
Idle (h ∷ hs) = Still h × Idle hs
