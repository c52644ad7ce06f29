-- What a fee may be, in hundredths of a penny.
use Rattle.std.specs.Prelude.{ℤ}
use Rattle.composition.specs.Amounts.{Between}

-- a fee lies within these limits, on either side
abbrev pub IsFee : ℤ → Type 0
IsFee = Between 1000000
