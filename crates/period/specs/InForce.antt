-- The readings of a period's half-hours, with the tariffs that are in force.
use Rattle.std.specs.Prelude.{ℕ, zero, suc, List, [], ◌∷◌, Some, None, Option}
use Rattle.period.specs.Limits.{most_types}
use Rattle.period.specs.Pages.{Entry, Page}
use Rattle.period.specs.declared.reading.Reading.{Reading}
use Rattle.period.specs.declared.reading.Tariffs.{Tariffs}

-- a tariff that is given, else the one that held before
abbrev pub given : ℕ → Option ℕ → ℕ
given before (Some v) = v
given before None = before

-- the tariffs in force in a half-hour, after those that held before it
abbrev pub in_force : Tariffs → Entry → Tariffs
in_force before e = record { import = given before.import e.import; export = given before.export e.export }

-- so many demands: those given, and 0 for each type without readings
abbrev pub padded : ℕ → List ℕ → List ℕ
padded zero vs = []
padded (suc n) [] = 0 ∷ padded n []
padded (suc n) (v ∷ vs) = v ∷ padded n vs

-- one half-hour, after the tariffs that held before it
abbrev pub reading_of : Tariffs → Entry → Reading
reading_of before e = record { tariffs = in_force before e; demands = padded most_types e.demands; generation = e.generation }

-- all half-hours from one on, after the tariffs that held before it
abbrev pub readings_after : Tariffs → List Entry → List Reading
readings_after before [] = []
readings_after before (e ∷ es) = reading_of before e ∷ readings_after (in_force before e) es

-- before the first half-hour, which has both tariffs
abbrev pub no_tariffs : Tariffs
no_tariffs = record { import = 0; export = 0 }

-- the half-hours of a page
abbrev pub readings : Page → List Reading
readings p = readings_after no_tariffs p.entries
