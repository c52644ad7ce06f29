use Rattle.std.proofs.Common.{◌-◌}
use Rattle.period.proofs.ReadingAlong.{SoFar}
use Rattle.period.specs.Reader.{value}
use Rattle.period.specs.Words.{demand_kind}
use Rattle.period.proofs.cursor.Cursor.demands.Given as goal

abbrev pub invariant-loop : goal.invariant-loop
invariant-loop l = SoFar (value demand_kind) l.initial.types l.initial.self (l.types - l.counter) l.self
