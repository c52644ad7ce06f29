-- An amount as the cost of a group.
use Rattle.std.specs.Prelude.{◌≡◌, cond, ◌&&◌, ℤ, pos, neg_ℤ, Ok, Err, Result, int_le}
use Rattle.cost_rules.specs.Faults.{outside_limits}
use Rattle.cost_rules.specs.Limits.{limit, Within}
use Rattle.cost_rules.specs.declared.fault.Fault.{Fault}

-- an amount as a rule's cost: a fault where it lies outside the limits
abbrev pub priced : ℤ → Result ℤ Fault
priced c = cond (int_le (neg_ℤ (pos limit)) c && int_le c (pos limit)) (Ok c) (Err outside_limits)

-- a price is the amount itself, which lies within the limits, or else the fault of one that does not
abbrev pub Priced : ℤ → Result ℤ Fault → Type 0
Priced amount (Ok cost) = (cost ≡ amount) × Within amount
Priced amount (Err fault) = (fault ≡ outside_limits) × (Within amount → ⊥)
