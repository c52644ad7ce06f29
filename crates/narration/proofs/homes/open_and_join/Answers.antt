use Rattle.account.proofs.GoingOn.{after_join}
use Rattle.account.specs.Runs.{opens}
use Rattle.figures.proofs.Workings.{opened}
use Rattle.narration.proofs.Lists.{one_more}
use Rattle.narration.proofs.homes.open_and_join.Goals as goal

pub loop-number-init : goal.loop-number-init
loop-number-init g c =
    let new = c.open_after-account.ensures.opened in
    (opens new, opened new)

pub loop-number-preserved : goal.loop-number-preserved
loop-number-preserved g c =
    let (answer, joined) = c.join.ensures in
    let before = c.loop-number.invariant in
    let a = c.loop-number.account in
    (after_join a c.join.new.account _ answer joined 0 before.0, one_more c.loop-number.number-index a c.join.new.account answer c.loop-number-test.true before.1 joined)
