use Rattle.std.proofs.Common.{List, ℤ, refl, arith, ap₂}
use Rattle.cost_rules.specs.Heads.{headed}
use Rattle.cost_rules.specs.Listed.{listed}
use Rattle.cost_rules.specs.Meanings.{Meaning}
use Rattle.cost_rules.specs.Sums.{sum_of}
use Rattle.figures.proofs.Workings.{newly, billable, bills_are, fees_made}
use Rattle.figures.specs.WorkedCases.{three_homes, fees, by_list_and_fees, bills_with_fees}
use Rattle.figures.proofs.billed.billed_with_fees.Goals as goal

pub bill-requires : goal.bill-requires
bill-requires c =
    let means = ap₂ listed c.list.ensures.box_is c.list.ensures.table_is in
    let both = ap₂ (λ (f : Meaning) (fs : List ℤ). sum_of f (headed fs)) means (fees_made fees c.new.result _ c.new.ensures c.unwrap.ensures) in
    billable by_list_and_fees _ three_homes 0 0 _ both (newly three_homes _ c.three_homes.ensures) (omega arith) (omega arith) refl (omega arith)

pub returns : goal.returns
returns c =
    let means = ap₂ listed c.list.ensures.box_is c.list.ensures.table_is in
    let both = ap₂ (λ (f : Meaning) (fs : List ℤ). sum_of f (headed fs)) means (fees_made fees c.new.result _ c.new.ensures c.unwrap.ensures) in
    (bills_are by_list_and_fees _ three_homes 0 0 _ _ _ bills_with_fees both (newly three_homes _ c.three_homes.ensures) c.bill.ensures refl).0
