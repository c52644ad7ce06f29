-- What a metered rule means: a cost of the half-hours that a group walks through.
use Rattle.std.specs.Prelude.{ℕ, Bool, cond, List, drop, ℤ, Err, ◌==◌}
use Rattle.std.specs.List.{list_all}
use Rattle.cost_rules.specs.Meanings.{Meaning}
use Rattle.cost_rules.specs.Prices.{priced}
use Rattle.period.specs.Pages.{Page}
use Rattle.metering.specs.Demands.{group_of}
use Rattle.metering.specs.Faults.{no_readings}
use Rattle.metering.specs.Walks.{half_hours_of}
use Rattle.metering.specs.declared.half_hour.HalfHour.{HalfHour}

-- whether there are readings for every home of a group: none is of a type beyond the first few
abbrev pub covers : ℕ → List ℕ → Bool
covers types counts = list_all (λ n. n == 0) (drop types counts)

-- the cost of the half-hours, if there are readings for all homes, and if it lies within the limits
abbrev pub metered : (List HalfHour → ℤ) → Page → Meaning
metered cost p counts = cond (covers p.types counts) (priced (cost (half_hours_of p (group_of counts)))) (Err no_readings)
