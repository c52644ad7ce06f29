-- What is printed of shares that were counted twice, byte for byte.
use Rattle.std.specs.Prelude.{ℕ, List, [], ◌∷◌, ◌++◌, ℤ, Some, None, Option, codes, slice_index_or}
use Rattle.std.specs.Fmt.{decimal, signed_decimal}
use Rattle.std.specs.List.{flat_map}
use Rattle.composition.specs.Counts.{total}
use Rattle.composition.specs.Types.{position, number_of}
use Rattle.composition.specs.declared.demand_type.DemandType.{DemandType}
use Rattle.composition.specs.declared.demand_type.DemandType.TheVariants.{One, Two, Three, Four}
use Rattle.account.specs.Bills.{homes_in, line_of}
use Rattle.account.specs.declared.draft.Draft.{Draft}
use Rattle.every_group.specs.declared.by_groups.ByGroups.{ByGroups}
use Rattle.listing.specs.Texts.{line_end}
use Rattle.recounting.specs.declared.row.Row.{Row}

-- the two shares of a type that has both
abbrev pub both : Option (ℤ × ℤ) → Option ByGroups → Option (ℤ × ByGroups)
both None by_groups = None
both (Some line) None = None
both (Some line) (Some by_groups) = Some (line.0, by_groups)

-- the row of a type, and the rows of all types
abbrev pub row_of : Draft → List (Option ByGroups) → DemandType → Row
row_of d by_groups k = record { of = k; shares = both (line_of d k) (slice_index_or by_groups (position k) None) }

abbrev pub rows_of : Draft → List (Option ByGroups) → List Row
rows_of d by_groups = row_of d by_groups One ∷ row_of d by_groups Two ∷ row_of d by_groups Three ∷ row_of d by_groups Four ∷ []

-- `type K share H again H groups G`, or nothing for a type without homes
abbrev pub row_text : Row → List ℕ
row_text r = told r.shares
  where
    told : Option (ℤ × ByGroups) → List ℕ
    told None = []
    told (Some shares) =
        codes "type " ++ (decimal (number_of r.of) ++ (codes " share " ++ (signed_decimal shares.0 ++ (codes " again " ++ (signed_decimal shares.1.share ++ (codes " groups " ++ (decimal shares.1.groups ++ line_end)))))))

-- `homes N over L`
abbrev pub head_text : Draft → List ℕ
head_text d = codes "homes " ++ (decimal (total (homes_in d)) ++ (codes " over " ++ (decimal d.lcm ++ line_end)))

-- all of it, with a row for each type that has homes
abbrev pub recount_text : Draft → List (Option ByGroups) → List ℕ
recount_text d by_groups = head_text d ++ flat_map row_text (rows_of d by_groups)
