-- A walk, half-hour by half-hour: what is still to be walked gives the whole.
use Rattle.std.proofs.Common.{◌≡◌, ℕ, zero, suc, ◌≤◌, List, [], ◌∷◌, length, ℤ, Some, None, Option, refl, ap, arith}
use Rattle.battery.specs.declared.rating.Rating.{Rating}
use Rattle.period.proofs.AcceptedPages.{begins}
use Rattle.period.specs.Filled.{page}
use Rattle.period.specs.InForce.{given, in_force, padded, readings_after, readings, no_tariffs}
use Rattle.period.specs.Limits.{most_half_hours, most_value}
use Rattle.period.specs.Pages.{Entry, Page, TariffWithin, AllWithin, EntriesWithin, WithinLimits}
use Rattle.period.specs.declared.period.Period.{Period}
use Rattle.period.specs.declared.reading.Reading.{Reading}
use Rattle.period.specs.declared.reading.Tariffs.{Tariffs}
use Rattle.metering.specs.Demands.{Group}
use Rattle.metering.specs.Tallies.{DemandsSmall, ReadingSmall}
use Rattle.metering.specs.Walks.{walked}
use Rattle.metering.specs.declared.half_hour.HalfHour.{HalfHour}

-- ---- the readings of a period are small

abbrev pub ReadingsSmall : List Reading → Type 0
ReadingsSmall [] = Unit {0}
ReadingsSmall (r ∷ rs) = ReadingSmall r × ReadingsSmall rs

padded_small : (n : ℕ) (vs : List ℕ) → AllWithin vs → DemandsSmall (padded n vs)
padded_small zero vs h k d within = absurd (omega (arith, within))
padded_small (suc n) [] h zero d within = omega arith
padded_small (suc n) [] h (suc k) d within = padded_small n [] h k d (omega (arith, within))
padded_small (suc n) (v ∷ vs) h zero d within = h.0
padded_small (suc n) (v ∷ vs) h (suc k) d within = padded_small n vs h.1 k d (omega (arith, within))

given_small : (before : ℕ) (o : Option ℕ) → before ≤ most_value → TariffWithin o → given before o ≤ most_value
given_small before (Some v) b h = h
given_small before None b h = b

after_small :
    (types : ℕ) (before : Tariffs) (es : List Entry)
    → before.import ≤ most_value
    → before.export ≤ most_value
    → EntriesWithin types es
    → ReadingsSmall (readings_after before es)
after_small types before [] i x h = tt
after_small types before (e ∷ es) i x h =
    let import_small = given_small before.import e.import i h.0.import_within in
    let export_small = given_small before.export e.export x h.0.export_within in (
      record {
        demands_small = padded_small 4 e.demands h.0.demands_within;
        generation_small = h.0.generation_within;
        import_small = import_small;
        export_small = export_small;
      },
      after_small types (in_force before e) es import_small export_small h.1,
    )

pub page_small : (p : Page) → WithinLimits p → ReadingsSmall (readings p)
page_small p within = after_small p.types no_tariffs p.entries (omega arith) (omega arith) within.entries_within

pub readings_small : (p : Period) → ReadingsSmall (readings (page p))
readings_small p = page_small (page p) (begins p.words.now p.accepted).within

-- there are as many as half-hours
pub as_many : (before : Tariffs) (es : List Entry) → length (readings_after before es) ≡ length es
as_many before [] = refl
as_many before (e ∷ es) = ap suc (as_many (in_force before e) es)

pub few_readings : (p : Period) → length (readings (page p)) ≤ most_half_hours
few_readings p = omega (arith, as_many no_tariffs (page p).entries, (begins p.words.now p.accepted).within.few_half_hours)

-- ---- along the walk

-- what a tally makes of the half-hours that are still to be walked is what it makes of all; they are small, and there is room for them
pub record Walking (over : List HalfHour → ℤ) (room : ℕ → Type 0) (b : Rating) (g : Group) (charge : ℕ) (left : List Reading) (whole : ℤ) : Type 0 where
  pub so_far : over (walked b g charge left) ≡ whole
  pub small : ReadingsSmall left
  pub spare : room (length left)
