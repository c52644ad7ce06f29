-- The numbers of this crate's refusals, as the world outside knows them. Those of faults stand in Faults.
use Rattle.std.specs.Prelude.{ℕ}
use Rattle.cost_rules.specs.declared.refusals.ListedRefusal.{ListedRefusal}
use Rattle.cost_rules.specs.declared.refusals.ListedRefusal.TheVariants.{BoxTooLarge, WrongLength, FirstNotZero, OutsideLimits}

-- an entry of a table of costs outside the limits of a cost
abbrev pub entry_outside : ℕ
entry_outside = 34

-- a box and a table that make no listed rule
abbrev pub listed_number : ListedRefusal → ℕ
listed_number BoxTooLarge = 31
listed_number WrongLength = 32
listed_number FirstNotZero = 33
listed_number (OutsideLimits p) = entry_outside

-- a fee outside its limits
abbrev pub fee_outside : ℕ
fee_outside = 41
