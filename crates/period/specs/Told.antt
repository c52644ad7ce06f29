-- Reading the half-hours of a period one after another.
use Rattle.std.specs.Prelude.{◌≡◌, List, [], ◌∷◌, Some, None, Option}
use Rattle.period.specs.Unread.{unread}
use Rattle.period.specs.declared.reading.Reading.{Reading}
use Rattle.period.specs.declared.readings.Readings.{Readings}

-- the half-hours that are still to be read
abbrev pub left_in : Readings → List Reading
left_in r = unread r.left r.types r.tariffs r.rest.now

-- the first of them is read, and the others are left; or there is none
abbrev pub ReadOn : Readings → Option Reading → Readings → Type 0
ReadOn old (Some reading) new = left_in old ≡ reading ∷ left_in new
ReadOn old None new = (left_in old ≡ []) × (new ≡ old)
