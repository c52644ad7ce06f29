-- What a home of a type is charged, on the way from its share to its line.
use Rattle.std.specs.Prelude.{◌≡◌, ℕ, ◌<◌, List, ℤ, pos, ◌-ℤ◌, Some, None, Option, slice_index_or}
use Rattle.composition.specs.Counts.{count}
use Rattle.composition.specs.Types.{position}
use Rattle.composition.specs.declared.demand_type.DemandType.{DemandType}
use Rattle.rounding.specs.Rounding.{RoundedUp}
use Rattle.shapley.specs.Shares.{share}
use Rattle.account.specs.declared.draft.billing_homes.Charge.{Charge}

-- the charge for a share, if there are homes, in pennies of so many parts
abbrev pub Charged : ℕ → ℤ → ℕ → Option Charge → Type 0
Charged homes share penny None = homes ≡ 0
Charged homes share penny (Some charge) = (0 < homes) × (charge.share ≡ share) × RoundedUp charge.share penny charge.pence

-- the charges of all types, where compositions cost c
abbrev pub ChargedByType : List ℕ → (List ℕ → ℤ) → ℕ → List (Option Charge) → Type 0
ChargedByType counts c penny charges = (k : DemandType) → Charged (count (position k) counts) (share counts (position k) c) penny (slice_index_or charges (position k) None)

-- the pence of a charge; a type without homes has none
abbrev pub pence_of : Option Charge → ℤ
pence_of None = pos 0
pence_of (Some charge) = charge.pence

-- a line out of a charge and the rebate
abbrev pub lined : Option Charge → ℤ → Option (ℤ × ℤ)
lined None rebate = None
lined (Some charge) rebate = Some (charge.share, charge.pence -ℤ rebate)
