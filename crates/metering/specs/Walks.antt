-- A group of homes is walked through a period.
use Rattle.std.specs.Prelude.{◌≡◌, ℕ, ◌*◌, List, [], ◌∷◌}
use Rattle.battery.specs.Energy.{Balanced, InBounds}
use Rattle.battery.specs.Steps.{after, imported, exported}
use Rattle.battery.specs.declared.rating.Rating.{Rating}
use Rattle.period.specs.InForce.{readings}
use Rattle.period.specs.Pages.{Page}
use Rattle.period.specs.declared.reading.Reading.{Reading}
use Rattle.metering.specs.Demands.{Group}
use Rattle.metering.specs.declared.half_hour.HalfHour.{HalfHour}

-- what the group's part of the turbine generates
abbrev pub generation_of : Group → Reading → ℕ
generation_of g r = g.homes * r.generation

-- one half-hour that begins with a charge
abbrev pub half_hour : Rating → Group → ℕ → Reading → HalfHour
half_hour b g charge r =
    record {
      demand = g.demand r.demands;
      generation = generation_of g r;
      import = imported b g.homes charge (g.demand r.demands) (generation_of g r);
      export = exported b g.homes charge (g.demand r.demands) (generation_of g r);
      tariffs = r.tariffs;
    }

-- and the charge that it ends with
abbrev pub charge_after : Rating → Group → ℕ → Reading → ℕ
charge_after b g charge r = after b g.homes charge (g.demand r.demands) (generation_of g r)

-- half-hour after half-hour, from a charge on
abbrev pub walked : Rating → Group → ℕ → List Reading → List HalfHour
walked b g charge [] = []
walked b g charge (r ∷ rs) = half_hour b g charge r ∷ walked b g (charge_after b g charge r) rs

-- the charge that a walk begins with: n × lowest
abbrev pub start : Rating → Group → ℕ
start b g = g.homes * b.lowest

-- the half-hours of a group, through a whole period
abbrev pub half_hours_of : Page → Group → List HalfHour
half_hours_of p g = walked p.rating g (start p.rating g) (readings p)

-- ---- what holds of every walk, by equations and comparisons, without a division

-- one half-hour is what its reading says, its energy is balanced, and the charge that it ends with lies within its bounds
pub record Sound (b : Rating) (g : Group) (charge : ℕ) (r : Reading) (h : HalfHour) (ends : ℕ) : Type 0 where
  pub demand_is : h.demand ≡ g.demand r.demands
  pub generation_is : h.generation ≡ g.homes * r.generation
  pub tariffs_are : h.tariffs ≡ r.tariffs
  pub balanced : Balanced b g.homes charge h.demand h.generation ends h.import h.export
  pub bounded : InBounds b g.homes ends

-- so is every half-hour, each from the charge that the one before it ended with; and there are as many as readings
abbrev pub AllSound : Rating → Group → ℕ → List Reading → List HalfHour → Type 0
AllSound b g charge [] [] = Unit {0}
AllSound b g charge [] (h ∷ hs) = ⊥
AllSound b g charge (r ∷ rs) [] = ⊥
AllSound b g charge (r ∷ rs) (h ∷ hs) = (ends : ℕ) × Sound b g charge r h ends × AllSound b g ends rs hs
