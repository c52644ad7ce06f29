-- What is printed of a listing and of a refusal, byte for byte. Numbers are in plain decimal digits, after a `-` if they are below 0.
use Rattle.std.specs.Prelude.{ℕ, List, [], ◌∷◌, ◌++◌, ℤ, Some, None, Option, codes}
use Rattle.std.specs.Fmt.{decimal, signed_decimal}
use Rattle.std.specs.List.{flat_map}
use Rattle.composition.specs.Counts.{total, count}
use Rattle.composition.specs.Types.{position, number_of}
use Rattle.composition.specs.declared.demand_type.DemandType.{DemandType}
use Rattle.composition.specs.declared.demand_type.DemandType.TheVariants.{One, Two, Three, Four}
use Rattle.account.specs.Bills.{homes_in, line_of}
use Rattle.account.specs.declared.draft.Draft.{Draft}
use Rattle.account.specs.declared.refusals.DraftRefusal.TheVariants.{NoHomes, TableTooShort, NumbersUsedUp, Faulty}
use Rattle.listing.specs.Refusals.{input_number}
use Rattle.listing.specs.declared.row.Row.{Row}
use Rattle.listing.specs.declared.refusals.InputRefusal.{InputRefusal}
use Rattle.listing.specs.declared.refusals.InputRefusal.TheVariants.{Unreadable, Period, Draft as NoDraft}

-- every line ends in a line feed
abbrev pub line_end : List ℕ
line_end = 10 ∷ []

-- the row of a type in a draft
abbrev pub row_of : Draft → DemandType → Row
row_of d k = record { of = k; homes = count (position k) (homes_in d); line = line_of d k }

-- the rows of all types
abbrev pub rows_of : Draft → List Row
rows_of d = row_of d One ∷ row_of d Two ∷ row_of d Three ∷ row_of d Four ∷ []

-- `type K count M share H bill B`, or nothing for a type without homes
abbrev pub row_text : Row → List ℕ
row_text r = told r.line
  where
    told : Option (ℤ × ℤ) → List ℕ
    told None = []
    told (Some line) =
        codes "type " ++ (decimal (number_of r.of) ++ (codes " count " ++ (decimal r.homes ++ (codes " share " ++ (signed_decimal line.0 ++ (codes " bill " ++ (signed_decimal line.1 ++ line_end)))))))

-- `homes N over L` and `cost C`
abbrev pub head_text : Draft → List ℕ
head_text d = codes "homes " ++ (decimal (total (homes_in d)) ++ (codes " over " ++ (decimal d.lcm ++ (codes "\ncost " ++ (signed_decimal d.cost ++ line_end)))))

-- `rebate R purse P`
abbrev pub foot_text : Draft → List ℕ
foot_text d = codes "rebate " ++ (signed_decimal d.rebate ++ (codes " purse " ++ (decimal d.purse ++ line_end)))

-- the whole listing, with a row for each type that has homes
abbrev pub listing_text : Draft → List ℕ
listing_text d = head_text d ++ (flat_map row_text (rows_of d) ++ foot_text d)

-- a number after a space
abbrev pub spaced : ℕ → List ℕ
spaced n = codes " " ++ decimal n

-- `refused NUMBER`, and behind it the place of the first offending word; or the place, the fault's number and its rung
abbrev pub refusal_text : InputRefusal → List ℕ
refusal_text e = codes "refused" ++ (spaced (input_number e) ++ (behind e ++ line_end))
  where
    behind : InputRefusal → List ℕ
    behind Unreadable = []
    behind (Period e) = spaced e.place
    behind (NoDraft NoHomes) = []
    behind (NoDraft TableTooShort) = []
    behind (NoDraft NumbersUsedUp) = []
    behind (NoDraft (Faulty p fault)) = spaced p ++ (spaced fault.number ++ spaced fault.rung)
