-- What a refused join or leave is told, in words.
use Rattle.std.specs.Prelude.{ℕ, List, codes}
use Rattle.account.specs.declared.refusals.JoinRefusal.{JoinRefusal}
use Rattle.account.specs.declared.refusals.JoinRefusal.TheVariants.{NoSuchType as NoTypeToJoin, Full}
use Rattle.account.specs.declared.refusals.LeaveRefusal.{LeaveRefusal}
use Rattle.account.specs.declared.refusals.LeaveRefusal.TheVariants.{NoSuchType as NoTypeToLeave, NoneThere}

-- a number of no type, by either
abbrev pub no_type_text : List ℕ
no_type_text = codes "there is no such type"

abbrev pub join_text : JoinRefusal → List ℕ
join_text NoTypeToJoin = no_type_text
join_text Full = codes "there are 24 homes already"

abbrev pub leave_text : LeaveRefusal → List ℕ
leave_text NoTypeToLeave = no_type_text
leave_text NoneThere = codes "there is no home of that type"
