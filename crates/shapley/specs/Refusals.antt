-- The numbers of this crate's refusals, as the world outside knows them.
use Rattle.std.specs.Prelude.{ℕ}
use Rattle.cost_rules.specs.Refusals.{entry_outside}
use Rattle.shapley.specs.declared.refusals.TableRefusal.{TableRefusal}
use Rattle.shapley.specs.declared.refusals.TableRefusal.TheVariants.{TooShort, OutsideLimits}

-- a table with fewer entries than groups
abbrev pub table_too_short : ℕ
table_too_short = 5

-- costs that are no table of some homes
abbrev pub table_number : TableRefusal → ℕ
table_number TooShort = table_too_short
table_number (OutsideLimits p) = entry_outside
