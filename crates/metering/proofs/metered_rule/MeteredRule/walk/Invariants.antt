use Rattle.period.specs.Told.{left_in}
use Rattle.metering.proofs.Walking.{Walking}
use Rattle.metering.specs.Demands.{group_of}
use Rattle.metering.specs.Walks.{walked}
use Rattle.metering.proofs.metered_rule.MeteredRule.walk.Given as goal

abbrev pub invariant-loop-reading : goal.invariant-loop-reading
invariant-loop-reading g l =
    let b = l.battery.rating in
    let n = group_of l.group.counts in
    Walking (g.T.Tally.over l.self.tally l.so_far) (g.T.Tally.room l.so_far) b n l.charge (left_in l.reading-iterator)
    (g.T.Tally.over l.self.tally l.initial.so_far (walked b n l.initial.charge (left_in l.initial.reading-iterator)))
