-- The words that a period is written in: 32 bits, of which the top 4 are the kind and the low 28 the value.
use Rattle.std.specs.Prelude.{ℕ, ◌+◌, ◌*◌, ◌/◌, ◌%◌}

-- how many values there are: 28 bits of them
abbrev pub values : ℕ
values = 0x10000000

-- the word of a kind with a value, and the two parts of a word
abbrev pub word : ℕ → ℕ → ℕ
word kind value = kind * values + value

abbrev pub kind_of : ℕ → ℕ
kind_of w = w / values

abbrev pub value_of : ℕ → ℕ
value_of w = w % values

-- the kinds
abbrev pub half_hours_kind : ℕ
half_hours_kind = 1

abbrev pub types_kind : ℕ
types_kind = 2

abbrev pub battery_kind : ℕ
battery_kind = 3

abbrev pub import_kind : ℕ
import_kind = 4

abbrev pub export_kind : ℕ
export_kind = 5

abbrev pub demand_kind : ℕ
demand_kind = 6

abbrev pub generation_kind : ℕ
generation_kind = 7

abbrev pub closing_kind : ℕ
closing_kind = 15

-- how many values a field has: 24 bits of them
abbrev pub field_values : ℕ
field_values = 0x1000000

-- a word of a kind whose value has a field in the top 4 bits and the field's value in the low 24
abbrev pub field_word : ℕ → ℕ → ℕ → ℕ
field_word kind field value = word kind (field * field_values + value)

-- a battery word is one
abbrev pub battery_word : ℕ → ℕ → ℕ
battery_word = field_word battery_kind

-- the field of a word that has one, and the field's value
abbrev pub field_of : ℕ → ℕ
field_of w = value_of w / field_values

abbrev pub field_value_of : ℕ → ℕ
field_value_of w = w % field_values

-- the fields
abbrev pub lowest_field : ℕ
lowest_field = 0

abbrev pub highest_field : ℕ
highest_field = 1

abbrev pub most_field : ℕ
most_field = 2

abbrev pub charging_field : ℕ
charging_field = 3

abbrev pub discharging_field : ℕ
discharging_field = 4

-- how many battery words there are, one for each field
abbrev pub battery_words : ℕ
battery_words = 5
