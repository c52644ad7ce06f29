use Rattle.std.proofs.Common.{◌-◌, false}
use Rattle.period.proofs.ReadingAlong.{SoFar}
use Rattle.period.specs.Reader.{entry}
use Rattle.period.proofs.cursor.Cursor.later.Given as goal

abbrev pub invariant-loop : goal.invariant-loop
invariant-loop l = SoFar (entry false l.types) l.initial.count l.initial.self (l.count - l.counter) l.self
