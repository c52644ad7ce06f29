use Rattle.std.proofs.Common.{◌≤◌, sym, ap, ◌∙◌, arith}
use Rattle.composition.proofs.Changes.{raised_lowered}
use Rattle.composition.proofs.Four.{in_order, total_four}
use Rattle.composition.specs.Counts.{raised}
use Rattle.every_group.proofs.Together.{one_more_without}
use Rattle.every_group.proofs.newcomer.one_of.Goals as goal

pub returns-in-Some : goal.returns-in-Some
returns-in-Some c =
    let taken = c.in-Some.ensures in
    sym (ap (raised _) taken.1 ∙ raised_lowered _ c.args.group.now.counts taken.0)

pub loop-of-preserved : goal.loop-of-preserved
loop-of-preserved c =
    one_more_without c.args.group.now.counts c.loop-of.of-index _ (in_order c.loop-of.of-index _ c.loop-of-test.true) c.in_default.ensures c.loop-of.invariant

pub returns : goal.returns
returns c =
    let none = c.loop-of.invariant in
    let end : 4 ≤ c.loop-of.of-index = c.loop-of-test.false in
    let counts = c.args.group.now.counts in
    omega
    (arith, total_four counts c.args.group.now.four, none 0 (omega (arith, end)), none 1 (omega (arith, end)), none 2 (omega (arith, end)), none 3 (omega (arith, end)))
