use Rattle.std.proofs.Common.{refl, arith, ap₂}
use Rattle.cost_rules.specs.Listed.{listed}
use Rattle.figures.proofs.Workings.{newly, billable, bills_are}
use Rattle.figures.specs.WorkedCases.{one_home, by_earning, bills_earning_150}
use Rattle.figures.proofs.billed.earning_150.Goals as goal

pub bill-requires : goal.bill-requires
bill-requires c =
    let means = ap₂ listed c.list-rule.ensures.box_is c.list-rule.ensures.table_is in
    billable (by_earning 150) _ one_home 0 0 _ means (newly one_home _ c.one_home.ensures) (omega arith) (omega arith) refl (omega arith)

pub returns : goal.returns
returns c =
    let means = ap₂ listed c.list-rule.ensures.box_is c.list-rule.ensures.table_is in
    (bills_are (by_earning 150) _ one_home 0 0 _ _ _ bills_earning_150 means (newly one_home _ c.one_home.ensures) c.bill.ensures refl).0
