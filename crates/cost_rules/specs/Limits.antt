-- What a cost may be, in hundredths of a penny.
use Rattle.std.specs.Prelude.{ℕ, ℤ}
use Rattle.composition.specs.Amounts.{Between}

-- the most that a group may cost, or earn
abbrev pub limit : ℕ
limit = 500000000

-- a cost within the limits, on either side
abbrev pub Within : ℤ → Type 0
Within = Between limit
