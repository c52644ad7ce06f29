-- Each share that is listed for an input, beside the one by all groups of the other homes.
use Rattle.std.specs.Prelude.{◌≡◌, ℕ, ◌-◌, ◌^◌, List, Some, None, Ok, Err, Option, Result, slice_index_or}
use Rattle.composition.specs.Counts.{total}
use Rattle.composition.specs.Types.{position}
use Rattle.composition.specs.declared.demand_type.DemandType.{DemandType}
use Rattle.account.specs.Bills.{line_of}
use Rattle.every_group.specs.ByGroups.{SameShare}
use Rattle.every_group.specs.declared.by_groups.ByGroups.{ByGroups}
use Rattle.listing.specs.Inputs.{Asks}
use Rattle.listing.specs.Listings.{FirstDraft, Listed}
use Rattle.listing.specs.declared.refusals.InputRefusal.{InputRefusal}
use Rattle.recounting.specs.declared.recount.Recount.{Recount}

-- what was counted by groups for a type
abbrev pub by_groups_of : Recount → DemandType → Option ByGroups
by_groups_of r k = slice_index_or r.by_groups (position k) None

-- so many groups were gone through, if there was a home to do so for
abbrev pub Through : ℕ → Option ByGroups → Type 0
Through groups (Some r) = r.groups ≡ groups
Through groups None = Unit {0}

-- for homes with these counts over the period in these words: the draft is the one that the annexe lists, whose shares are Shapley values, and for each type what was counted by groups is the
-- share in its line. The groups are as many as subsets of all homes but one.
pub record BothShares (counts words : List ℕ) (r : Recount) : Type 0 where
  pub drafted : FirstDraft counts words r.draft
  pub same : (k : DemandType) → SameShare (by_groups_of r k) (line_of r.draft k)
  pub through_all : (k : DemandType) → Through (2 ^ (total counts - 1)) (by_groups_of r k)

-- what is counted again for an input is what it asks for; refused, it is so as the annexe refuses it
abbrev pub CountedAgain : List ℕ → Result Recount InputRefusal → Type 0
CountedAgain input (Ok r) = Asks input (λ counts words. BothShares counts words r)
CountedAgain input (Err e) = Listed input (Err e)
