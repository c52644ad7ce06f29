-- The numbers of this crate's refusals, as the world outside knows them.
use Rattle.std.specs.Prelude.{ℕ}

-- a number that names no demand type
abbrev pub no_such_type : ℕ
no_such_type = 1

-- more than 24 homes in all
abbrev pub too_many_homes : ℕ
too_many_homes = 8
