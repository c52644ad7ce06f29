-- Reading half-hours off words that are known to be a period's: only whether a tariff stands there has to be asked. Nobody has to believe this:
-- `Period::readings` says what is left at first, and `Readings::next` takes the first off.
use Rattle.std.specs.Prelude.{ℕ, zero, suc, ◌+◌, Bool, false, cond, List, [], ◌∷◌, drop, ◌==◌, slice_index}
use Rattle.period.specs.Limits.{most_types}
use Rattle.period.specs.Words.{kind_of, value_of, import_kind, export_kind}
use Rattle.period.specs.declared.reading.Reading.{Reading}
use Rattle.period.specs.declared.reading.Tariffs.{Tariffs}

-- whether a word of a kind stands first
abbrev pub stands : ℕ → List ℕ → Bool
stands kind [] = false
stands kind (w ∷ ws) = kind_of w == kind

-- the value of the first word, if there is one
abbrev pub first_value : List ℕ → ℕ
first_value ws = value_of (slice_index ws 0)

-- a tariff, which the first word gives if it is of that kind, else the one before
abbrev pub tariff_in : ℕ → ℕ → List ℕ → ℕ
tariff_in kind before ws = cond (stands kind ws) (first_value ws) before

-- what is left when such a word is passed over, if it stands there; and when both tariffs are
abbrev pub past : ℕ → List ℕ → List ℕ
past kind ws = cond (stands kind ws) (drop 1 ws) ws

abbrev pub past_tariffs : List ℕ → List ℕ
past_tariffs ws = past export_kind (past import_kind ws)

-- so many demands, of which the first few have words
abbrev pub demands_in : ℕ → ℕ → List ℕ → List ℕ
demands_in zero types ws = []
demands_in (suc n) zero ws = 0 ∷ demands_in n zero ws
demands_in (suc n) (suc types) ws = first_value ws ∷ demands_in n types (drop 1 ws)

-- the first half-hour, after the tariffs that held before it
abbrev pub first_of : ℕ → Tariffs → List ℕ → Reading
first_of types before ws =
    record {
      tariffs =
          record {
            import = tariff_in import_kind before.import ws;
            export = tariff_in export_kind before.export (past import_kind ws);
          };
      demands = demands_in most_types types (past_tariffs ws);
      generation = first_value (drop types (past_tariffs ws));
    }

-- what is left behind it
abbrev pub behind : ℕ → List ℕ → List ℕ
behind types ws = drop (types + 1) (past_tariffs ws)

-- so many half-hours
abbrev pub unread : ℕ → ℕ → Tariffs → List ℕ → List Reading
unread zero types before ws = []
unread (suc n) types before ws = first_of types before ws ∷ unread n types (first_of types before ws).tariffs (behind types ws)
