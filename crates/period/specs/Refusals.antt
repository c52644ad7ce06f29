-- The numbers of this crate's refusals, as the world outside knows them.
use Rattle.std.specs.Prelude.{ℕ}
use Rattle.period.specs.declared.refusals.Part.{Part}
use Rattle.period.specs.declared.refusals.Part.TheVariants.{Length, Types, Battery, HalfHour, Closing}

-- the part of a period that the first offending word belongs to
abbrev pub part_number : Part → ℕ
part_number Length = 21
part_number Types = 22
part_number Battery = 23
part_number HalfHour = 24
part_number Closing = 25
