-- The numbers of refusals, as the world outside knows them.
use Rattle.std.specs.Prelude.{ℕ}
use Rattle.account.specs.Refusals.{draft_number}
use Rattle.period.specs.Refusals.{part_number}
use Rattle.listing.specs.declared.refusals.InputRefusal.{InputRefusal}
use Rattle.listing.specs.declared.refusals.InputRefusal.TheVariants.{Unreadable, Period, Draft}

-- an input that asks for nothing; else as the period check and the draft refuse
abbrev pub input_number : InputRefusal → ℕ
input_number Unreadable = 61
input_number (Period e) = part_number e.part
input_number (Draft e) = draft_number e
