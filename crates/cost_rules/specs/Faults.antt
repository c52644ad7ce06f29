-- Why a group has no cost: the numbers of faults, as the world outside knows them, and the rung that says through how many sums one came.
use Rattle.std.specs.Prelude.{ℕ, ◌+◌, min}
use Rattle.cost_rules.specs.declared.fault.Fault.{Fault}

-- a rule's own fault stands on rung 0
abbrev pub own : ℕ → Fault
own n = record { number = n; rung = 0 }

-- a cost outside the limits
abbrev pub outside_limits : Fault
outside_limits = own 10

-- a count above a listed rule's box
abbrev pub above_box : Fault
above_box = own 11

-- the fault of a part, as a sum passes it on: one rung higher, but never above 255
abbrev pub lifted : Fault → Fault
lifted f = record { number = f.number; rung = min (f.rung + 1) 255 }
