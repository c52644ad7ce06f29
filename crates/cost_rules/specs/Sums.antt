-- The sum of two rules, and that it owes what every rule owes.
use Rattle.std.specs.Prelude.{ℤ, ◌+ℤ◌, Ok, Err, Result}
use Rattle.cost_rules.specs.Faults.{lifted}
use Rattle.cost_rules.specs.Prices.{priced}
use Rattle.cost_rules.specs.Meanings.{Meaning}
use Rattle.cost_rules.specs.declared.fault.Fault.{Fault}

-- the costs added; the left fault, else the right one, a rung higher
abbrev pub both : Result ℤ Fault → Result ℤ Fault → Result ℤ Fault
both (Ok a) (Ok b) = priced (a +ℤ b)
both (Ok a) (Err g) = Err (lifted g)
both (Err f) b = Err (lifted f)

-- what the sum of two rules means
abbrev pub sum_of : Meaning → Meaning → Meaning
sum_of f g n = both (f n) (g n)
