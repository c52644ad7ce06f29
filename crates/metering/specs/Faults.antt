-- The fault that a metered rule brings, as the world outside knows it.
use Rattle.cost_rules.specs.Faults.{own}
use Rattle.cost_rules.specs.declared.fault.Fault.{Fault}

-- a home of a type that the period has no readings for
abbrev pub no_readings : Fault
no_readings = own 12
