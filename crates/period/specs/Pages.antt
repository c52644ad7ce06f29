-- What a period says, as a page that is written down, and the words that write it down.
use Rattle.std.specs.Prelude.{◌≡◌, ℕ, ◌≤◌, List, [], ◌∷◌, ◌++◌, length, Some, None, Option}
use Rattle.battery.specs.Ratings.{Rated}
use Rattle.battery.specs.declared.rating.Rating.{Rating}
use Rattle.period.specs.Limits.{most_half_hours, most_types, most_value}
use Rattle.period.specs.Words.{word, battery_word, half_hours_kind, types_kind, import_kind, export_kind, demand_kind, generation_kind, closing_kind, lowest_field, highest_field, most_field, charging_field, discharging_field}

-- one half-hour as it is written: a tariff may be left out, and demands are given type by type
pub record Entry : Type 0 where
  pub import : Option ℕ
  pub export : Option ℕ
  pub demands : List ℕ
  pub generation : ℕ

-- a whole period: for how many types it has readings, the battery's rating, and its half-hours
pub record Page : Type 0 where
  pub types : ℕ
  pub rating : Rating
  pub entries : List Entry

-- ---- how it is written

-- the word of a tariff, if it is given
abbrev pub tariff_words : ℕ → Option ℕ → List ℕ
tariff_words kind (Some v) = word kind v ∷ []
tariff_words kind None = []

-- a word of one kind for each value
abbrev pub words_of : ℕ → List ℕ → List ℕ
words_of kind [] = []
words_of kind (v ∷ vs) = word kind v ∷ words_of kind vs

-- the words of one half-hour
abbrev pub entry_words : Entry → List ℕ
entry_words e =
    tariff_words import_kind e.import ++ (tariff_words export_kind e.export ++ (words_of demand_kind e.demands ++ (word generation_kind e.generation ∷ [])))

-- the words of all half-hours
abbrev pub entries_words : List Entry → List ℕ
entries_words [] = []
entries_words (e ∷ es) = entry_words e ++ entries_words es

-- the words of the battery, field by field
abbrev pub rating_words : Rating → List ℕ
rating_words b =
    battery_word lowest_field b.lowest
    ∷ battery_word highest_field b.highest
    ∷ battery_word most_field b.most
    ∷ battery_word charging_field b.charging
    ∷ battery_word discharging_field b.discharging
    ∷ []

-- all words but the last
abbrev pub body : Page → List ℕ
body p = word half_hours_kind (length p.entries) ∷ word types_kind p.types ∷ (rating_words p.rating ++ entries_words p.entries)

-- the whole page: its last word has its own place as value
abbrev pub written : Page → List ℕ
written p = body p ++ (word closing_kind (length (body p)) ∷ [])

-- ---- what may be written

-- a tariff that is given lies within its limits
abbrev pub TariffWithin : Option ℕ → Type 0
TariffWithin (Some v) = v ≤ most_value
TariffWithin None = Unit {0}

-- each value lies within its limits
abbrev pub AllWithin : List ℕ → Type 0
AllWithin [] = Unit {0}
AllWithin (v ∷ vs) = (v ≤ most_value) × AllWithin vs

-- one half-hour: a demand for each type, and everything within its limits
pub record EntryWithin (types : ℕ) (e : Entry) : Type 0 where
  pub import_within : TariffWithin e.import
  pub export_within : TariffWithin e.export
  pub a_demand_each : length e.demands ≡ types
  pub demands_within : AllWithin e.demands
  pub generation_within : e.generation ≤ most_value

-- and so in each half-hour
abbrev pub EntriesWithin : ℕ → List Entry → Type 0
EntriesWithin types [] = Unit {0}
EntriesWithin types (e ∷ es) = EntryWithin types e × EntriesWithin types es

-- a tariff is given
abbrev pub Given : Option ℕ → Type 0
Given (Some v) = Unit {0}
Given None = ⊥

-- the first half-hour gives both tariffs
abbrev pub FirstGiven : List Entry → Type 0
FirstGiven [] = Unit {0}
FirstGiven (e ∷ es) = Given e.import × Given e.export

-- a page that may be written
pub record WithinLimits (p : Page) : Type 0 where
  pub some_half_hours : 1 ≤ length p.entries
  pub few_half_hours : length p.entries ≤ most_half_hours
  pub some_types : 1 ≤ p.types
  pub few_types : p.types ≤ most_types
  pub rated : Rated p.rating
  pub entries_within : EntriesWithin p.types p.entries
  pub first_given : FirstGiven p.entries

-- these words write a page down
pub record Writes (p : Page) (ws : List ℕ) : Type 0 where
  pub within : WithinLimits p
  pub as_written : ws ≡ written p

-- what words say: there is a page that they write down, and this holds of each
pub record Says (ws : List ℕ) (P : Page → Type 0) : Type 0 where
  pub a_page : (p : Page) × Writes p ws
  pub of_each : (p : Page) → Writes p ws → P p
