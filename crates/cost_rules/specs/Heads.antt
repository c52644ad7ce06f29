-- The head rule: a fee for each home of a type.
use Rattle.std.specs.Prelude.{◌≡◌, ◌<◌, List, ℤ, pos, Ok, Err, Result, slice_index_or}
use Rattle.composition.specs.Amounts.{weighted}
use Rattle.composition.specs.Types.{position}
use Rattle.composition.specs.declared.demand_type.DemandType.{DemandType}
use Rattle.cost_rules.specs.Fees.{IsFee}
use Rattle.cost_rules.specs.Meanings.{Meaning}
use Rattle.cost_rules.specs.declared.head.HeadRule.{HeadRule}
use Rattle.cost_rules.specs.declared.refusals.FeeOutside.{FeeOutside}

-- what a list of fees means: every composition has a cost
abbrev pub headed : List ℤ → Meaning
headed fees n = Ok (weighted n fees)

-- the fee of a type
abbrev pub fee_of : List ℤ → DemandType → ℤ
fee_of fees k = slice_index_or fees (position k) (pos 0)

-- fees within their limits make a rule that has them; else the first type whose fee is not is named
abbrev pub HeadMade : List ℤ → Result HeadRule FeeOutside → Type 0
HeadMade fees (Ok rule) = rule.fees ≡ fees
HeadMade fees (Err e) = (IsFee (fee_of fees e.of) → ⊥) × ((k : DemandType) → position k < position e.of → IsFee (fee_of fees k))
