-- The numbers of refusals, as the world outside knows them.
use Rattle.std.specs.Prelude.{ℕ}
use Rattle.composition.specs.Refusals.{no_such_type}
use Rattle.shapley.specs.Refusals.{table_too_short}
use Rattle.account.specs.declared.refusals.JoinRefusal.{JoinRefusal}
use Rattle.account.specs.declared.refusals.JoinRefusal.TheVariants.{NoSuchType as NoTypeToJoin, Full}
use Rattle.account.specs.declared.refusals.LeaveRefusal.{LeaveRefusal}
use Rattle.account.specs.declared.refusals.LeaveRefusal.TheVariants.{NoSuchType as NoTypeToLeave, NoneThere}
use Rattle.account.specs.declared.refusals.DraftRefusal.{DraftRefusal}
use Rattle.account.specs.declared.refusals.DraftRefusal.TheVariants.{NoHomes, TableTooShort, NumbersUsedUp, Faulty}

-- joining: a number of no type, and a 25th home
abbrev pub join_number : JoinRefusal → ℕ
join_number NoTypeToJoin = no_such_type
join_number Full = 2

-- leaving: a number of no type, and a type without homes
abbrev pub leave_number : LeaveRefusal → ℕ
leave_number NoTypeToLeave = no_such_type
leave_number NoneThere = 3

-- drafting: no homes, too short a table, no bill number left, and a fault
abbrev pub draft_number : DraftRefusal → ℕ
draft_number NoHomes = 4
draft_number TableTooShort = table_too_short
draft_number NumbersUsedUp = 6
draft_number (Faulty place fault) = 7
