use Rattle.std.proofs.Common.{◌≡◌, drop, min}
use Rattle.period.specs.Limits.{most_types}
use Rattle.period.specs.Unread.{demands_in}
use Rattle.period.proofs.readings.reading_on.demands.Given as goal

abbrev pub invariant-loop-place : goal.invariant-loop-place
invariant-loop-place l = record {
  given : l.demand-items ≡ demands_in most_types (min l.place l.types) l.initial.words.now;
  left : l.words.now ≡ drop (min l.place l.types) l.initial.words.now;
}
