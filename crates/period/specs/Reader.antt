-- How a period is read, word by word: the page that the words write down, or the part and the place of the first offending word. That it reads exactly what
-- pages write is a law (Filled and Offences say it of `Period::fill`), so nobody has to believe this definition.
use Rattle.std.specs.Prelude.{ℕ, zero, suc, ◌+◌, ◌-◌, Bool, true, false, cond, ◌&&◌, List, [], ◌∷◌, is_ok, Some, None, Ok, Err, Option, Result, ◌==◌, nat_le}
use Rattle.battery.specs.Ratings.{most_charge, most_moved, whole}
use Rattle.battery.specs.declared.rating.Rating.{Rating}
use Rattle.period.specs.Limits.{most_half_hours, most_types, most_value}
use Rattle.period.specs.Pages.{Entry, Page}
use Rattle.period.specs.Words.{word, battery_word, half_hours_kind, types_kind, import_kind, export_kind, demand_kind, generation_kind, closing_kind, lowest_field, highest_field, most_field, charging_field, discharging_field}
use Rattle.period.specs.declared.refusals.Part.{Part}
use Rattle.period.specs.declared.refusals.Part.TheVariants.{Length, Types, Battery, HalfHour, Closing}
use Rattle.period.specs.declared.refusals.PeriodRefusal.{PeriodRefusal}

-- reads the words that are left, the first of which stands at a place
abbrev pub Reader : Type 0
Reader = List ℕ → ℕ → Result Page PeriodRefusal

-- the word at a place offends
abbrev pub offends : Part → ℕ → Result Page PeriodRefusal
offends part place = Err (record { part = part; place = place })

-- a word lies from one to another
abbrev pub between : ℕ → ℕ → ℕ → Bool
between low high w = nat_le low w && nat_le w high

-- one word with a value from `least` to `most` above a base, then what is read next, which is told the value
abbrev pub one : Part → ℕ → ℕ → ℕ → (ℕ → Reader) → Reader
one part base least most next [] place = offends part place
one part base least most next (w ∷ ws) place = cond (between (base + least) (base + most) w) (next (w - base) ws (place + 1)) (offends part place)

-- such a word, if it stands there: one that is none is left for what is read next
abbrev pub maybe : ℕ → ℕ → ℕ → (Option ℕ → Reader) → Reader
maybe base least most next [] place = next None [] place
maybe base least most next (w ∷ ws) place = cond (between (base + least) (base + most) w) (next (Some (w - base)) ws (place + 1)) (next None (w ∷ ws) place)

-- one word of a half-hour
abbrev pub value : ℕ → (ℕ → Reader) → Reader
value kind = one HalfHour (word kind 0) 0 most_value

-- a tariff that may be left out
abbrev pub maybe_tariff : ℕ → (Option ℕ → Reader) → Reader
maybe_tariff kind = maybe (word kind 0) 0 most_value

-- a tariff, which the first half-hour must have
abbrev pub tariff : Bool → ℕ → (Option ℕ → Reader) → Reader
tariff true kind next = value kind (λ v. next (Some v))
tariff false kind next = maybe_tariff kind next

-- so many in a row
abbrev pub times : {A : Type 0} → ((A → Reader) → Reader) → ℕ → (List A → Reader) → Reader
times each zero next = next []
times each (suc n) next = each (λ v. times each n (λ vs. next (v ∷ vs)))

-- a demand for each type
abbrev pub demands : ℕ → (List ℕ → Reader) → Reader
demands types = times (value demand_kind) types

-- one half-hour, the first or a later one
abbrev pub entry : Bool → ℕ → (Entry → Reader) → Reader
entry first types next =
    tariff first import_kind
    (λ i. tariff first export_kind
    (λ x. demands types (λ ds. value generation_kind (λ g. next (record { import = i; export = x; demands = ds; generation = g })))))

-- so many later half-hours
abbrev pub later : ℕ → ℕ → (List Entry → Reader) → Reader
later t types = times (entry false types) t

-- all half-hours
abbrev pub entries : ℕ → ℕ → (List Entry → Reader) → Reader
entries t types next = entry true types (λ e. later (t - 1) types (λ es. next (e ∷ es)))

-- one battery word
abbrev pub field : ℕ → ℕ → ℕ → (ℕ → Reader) → Reader
field f = one Battery (battery_word f 0)

-- the battery words; the highest charge is no lower than the lowest
abbrev pub rating : (Rating → Reader) → Reader
rating next =
    field lowest_field 0 most_charge
    (λ lowest. field highest_field lowest most_charge
    (λ highest. field most_field 0 most_moved
    (λ most. field charging_field 1 whole
    (λ charging. field discharging_field 1 whole
    (λ discharging. next (record { lowest = lowest; highest = highest; most = most; charging = charging; discharging = discharging }))))))

-- nothing more
abbrev pub end : Page → Reader
end p [] place = Ok p
end p (w ∷ ws) place = offends Closing place

-- the closing word, whose value is its own place, and nothing behind it
abbrev pub close : Page → Reader
close p [] place = offends Closing place
close p (w ∷ ws) place = cond (w == word closing_kind place) (end p ws (place + 1)) (offends Closing place)

-- a whole period
abbrev pub period : Reader
period =
    one Length (word half_hours_kind 0) 1 most_half_hours
    (λ t. one Types (word types_kind 0) 1 most_types
    (λ k. rating (λ b. entries t k (λ es. close (record { types = k; rating = b; entries = es })))))

-- and what it answers, from the first word on
abbrev pub read : List ℕ → Result Page PeriodRefusal
read ws = period ws 0

-- whether words are a period
abbrev pub accepts : List ℕ → Bool
accepts ws = is_ok (read ws)

-- the page that was read; where the words are no period, any page
abbrev pub page_or : Result Page PeriodRefusal → Page
page_or (Ok p) = p
page_or (Err e) = record { types = 0; rating = record { lowest = 0; highest = 0; most = 0; charging = 0; discharging = 0 }; entries = [] }

-- the page of words
abbrev pub page_of : List ℕ → Page
page_of ws = page_or (read ws)
