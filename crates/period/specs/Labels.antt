-- Words by their label: the kind, or the field of a battery word. Only contracts inside the crate cite this.
use Rattle.std.specs.Prelude.{◌≡◌, ℕ, ◌+◌, ◌<◌, ◌≤◌, ◌⊎◌, Some, None, Option}
use Rattle.battery.specs.declared.rating.Rating.{Rating}
use Rattle.period.specs.Words.{values, word, field_values, battery_word, half_hours_kind, types_kind, battery_kind, import_kind, export_kind, demand_kind, generation_kind, closing_kind, lowest_field, highest_field, most_field, charging_field, discharging_field}
use Rattle.period.specs.declared.kinds.Field.{Field as BatteryField}
use Rattle.period.specs.declared.kinds.Field.TheVariants.{Lowest, Highest, Most, Charging, Discharging}
use Rattle.period.specs.declared.kinds.Kind.{Kind as WordKind}
use Rattle.period.specs.declared.kinds.Kind.TheVariants.{HalfHours, Types, Battery, Import, Export, Demand, Generation, Closing}
use Rattle.period.specs.declared.label.Label.{Label}
use Rattle.period.specs.declared.label.Label.TheVariants.{Kind, Field}

-- the number that a word has for its kind
abbrev pub kind_number : WordKind → ℕ
kind_number HalfHours = half_hours_kind
kind_number Types = types_kind
kind_number Battery = battery_kind
kind_number Import = import_kind
kind_number Export = export_kind
kind_number Demand = demand_kind
kind_number Generation = generation_kind
kind_number Closing = closing_kind

-- the number that a battery word has for its field
abbrev pub field_number : BatteryField → ℕ
field_number Lowest = lowest_field
field_number Highest = highest_field
field_number Most = most_field
field_number Charging = charging_field
field_number Discharging = discharging_field

-- what a battery's rating has for a field
abbrev pub field_in : BatteryField → Rating → ℕ
field_in Lowest b = b.lowest
field_in Highest b = b.highest
field_in Most b = b.most
field_in Charging b = b.charging
field_in Discharging b = b.discharging

-- the word with a label and the value 0
abbrev pub base : Label → ℕ
base (Kind k) = word (kind_number k) 0
base (Field f) = battery_word (field_number f) 0

-- how many values words with a label can have
abbrev pub span : Label → ℕ
span (Kind k) = values
span (Field f) = field_values

-- the value of a word that has the label; else it lies before or behind those that have it
abbrev pub LabelRead : Label → ℕ → Option ℕ → Type 0
LabelRead label w (Some v) = (w ≡ base label + v) × (v < span label)
LabelRead label w None = (w < base label) ⊎ (base label + span label ≤ w)
