-- A share by all groups of the other homes, and that it is the one in a draft.
use Rattle.std.specs.Prelude.{◌≡◌, ℕ, ◌^◌, ◌<◌, List, ◌∷◌, length, ℤ, pos, Some, None, Ok, Option, slice_index_or}
use Rattle.composition.specs.Counts.{count, size}
use Rattle.composition.specs.Types.{position}
use Rattle.composition.specs.declared.demand_type.DemandType.{DemandType}
use Rattle.cost_rules.specs.Meanings.{Meaning}
use Rattle.shapley.specs.CommonMultiple.{lcm_to}
use Rattle.shapley.specs.CostTables.{cost_in}
use Rattle.shapley.specs.Subsets.{counts_of, IsShapleyShare}
use Rattle.shapley.specs.declared.cost_table.CostTable.{CostTable}
use Rattle.account.specs.Bills.{line_of}
use Rattle.account.specs.Calls.{Drafted}
use Rattle.account.specs.Terms.{Terms}
use Rattle.account.specs.declared.account.Account.{Account}
use Rattle.account.specs.declared.draft.Draft.{Draft}
use Rattle.every_group.specs.declared.by_groups.ByGroups.{ByGroups}

-- what is said of the homes beside one of a type: there is a list of them, one entry a home, its type, and this holds of any such list
pub record OfTheOthers (counts : List ℕ) (k : DemandType) (P : List DemandType → Type 0) : Type 0 where
  pub a_list : (others : List DemandType) × (counts_of (k ∷ others) ≡ counts)
  pub of_each : (others : List DemandType) → counts_of (k ∷ others) ≡ counts → P others

-- there were as many groups as the others have subsets, and the share is the home's Shapley value over all of these
pub record FromSubsets (t : CostTable) (k : DemandType) (r : ByGroups) (others : List DemandType) : Type 0 where
  pub every_group : r.groups ≡ 2 ^ length others
  pub shapley : IsShapleyShare (cost_in t) k others (lcm_to (length (k ∷ others))) r.share

-- the share of a home of a type by all groups, or that there is no such home
abbrev pub SharedByGroups : CostTable → DemandType → Option ByGroups → Type 0
SharedByGroups t k (Some r) = OfTheOthers t.homes.counts k (FromSubsets t k r)
SharedByGroups t k None = count (position k) t.homes.counts ≡ 0

-- the share in a line is the one by all groups; and there is no line exactly if there is no such share
abbrev pub SameShare : Option ByGroups → Option (ℤ × ℤ) → Type 0
SameShare (Some r) (Some line) = r.share ≡ line.0
SameShare (Some r) None = ⊥
SameShare None (Some line) = ⊥
SameShare None None = Unit {0}

-- so it is in every draft for these homes, by whatever rule, that left this table's entries for their groups
abbrev pub AsDrafted : CostTable → DemandType → Option ByGroups → Type 0
AsDrafted t k r =
    (terms : Terms) (f : Meaning) (a : Account) (before after : List ℤ) (d : Draft)
    → a.homes.counts ≡ t.homes.counts
    → Drafted terms f a before (Ok d) after
    → ((p : ℕ) → p < size t.homes.counts → slice_index_or after p (pos 0) ≡ slice_index_or t.costs.now p (pos 0))
    → SameShare r (line_of d k)
