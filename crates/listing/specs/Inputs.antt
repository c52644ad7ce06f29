-- What an input asks for, and the bytes that it is written in.
use Rattle.std.specs.Prelude.{◌≡◌, ℕ, ◌^◌, ◌<◌, ◌≤◌, List, [], ◌∷◌, ◌++◌, length, All}
use Rattle.std.specs.Int.{to_le_bytes, w32}
use Rattle.std.specs.List.{flat_map}
use Rattle.composition.specs.Counts.{most, total, count}
use Rattle.composition.specs.Types.{position, number_of}
use Rattle.composition.specs.declared.demand_type.DemandType.{DemandType}
use Rattle.composition.specs.declared.demand_type.DemandType.TheVariants.{One, Two, Three, Four}
use Rattle.period.specs.Words.{field_word}

-- the most bytes that an input may have
abbrev pub most_bytes : ℕ
most_bytes = 65536

-- words of 32 bits
abbrev pub Of32Bits : List ℕ → Type 0
Of32Bits = All (λ w. w < 2 ^ 32)

-- the bytes of words, four for each, the low byte first
abbrev pub bytes_of : List ℕ → List ℕ
bytes_of = flat_map (to_le_bytes w32)

-- the kind of a word that says how many homes there are
abbrev pub homes_kind : ℕ
homes_kind = 9

-- the word for so many homes of a type: it has the type's number for its field, and how many there are for that field's value
abbrev pub homes_word : DemandType → ℕ → ℕ
homes_word k n = field_word homes_kind (number_of k) n

-- the words for these counts, one for each type
abbrev pub homes_words : List ℕ → List ℕ
homes_words counts =
    homes_word One (count (position One) counts)
    ∷ homes_word Two (count (position Two) counts)
    ∷ homes_word Three (count (position Three) counts)
    ∷ homes_word Four (count (position Four) counts)
    ∷ []

-- these bytes write down homes with these counts, and behind them these words, which are to be a period
pub record WritesDown (counts words input : List ℕ) : Type 0 where
  pub four : length counts ≡ 4
  pub few : total counts ≤ most
  pub of_32_bits : Of32Bits words
  pub as_written : input ≡ bytes_of (homes_words counts ++ words)
  pub short : length input ≤ most_bytes

-- what an input asks for: there are counts and words that it writes down, and this holds of any such
pub record Asks (input : List ℕ) (P : List ℕ → List ℕ → Type 0) : Type 0 where
  pub a_request : (counts : List ℕ) × (words : List ℕ) × WritesDown counts words input
  pub of_each : (counts words : List ℕ) → WritesDown counts words input → P counts words

-- an input asks for nothing: there are no such counts and words
abbrev pub AsksNothing : List ℕ → Type 0
AsksNothing input = (counts words : List ℕ) → WritesDown counts words input → ⊥
