use Rattle.std.proofs.Common.{refl, arith, ap₂}
use Rattle.cost_rules.specs.Listed.{listed}
use Rattle.figures.proofs.Workings.{newly, billable, bills_are, stands_after}
use Rattle.figures.specs.WorkedCases.{three_homes, by_list, first_bills, second_bills, third_bills}
use Rattle.figures.proofs.billed.billed_by_list.Goals as goal

pub bill-requires : goal.bill-requires
bill-requires c =
    let means = ap₂ listed c.list-rule.ensures.box_is c.list-rule.ensures.table_is in
    billable by_list _ three_homes 0 0 _ means (newly three_homes _ c.three_homes.ensures) (omega arith) (omega arith) refl (omega arith)

pub bill-requires-2 : goal.bill-requires-2
bill-requires-2 c =
    let means = ap₂ listed c.list-rule.ensures.box_is c.list-rule.ensures.table_is in
    let new = newly three_homes _ c.three_homes.ensures in
    let first = bills_are by_list _ three_homes 0 0 _ _ _ first_bills means new c.bill.ensures refl in
    let once = stands_after by_list three_homes 0 0 _ _ first_bills new first.1 in
    billable by_list _ three_homes 100 1 _ means once (omega arith) (omega arith) refl (omega arith)

pub bill-requires-3 : goal.bill-requires-3
bill-requires-3 c =
    let means = ap₂ listed c.list-rule.ensures.box_is c.list-rule.ensures.table_is in
    let new = newly three_homes _ c.three_homes.ensures in
    let first = bills_are by_list _ three_homes 0 0 _ _ _ first_bills means new c.bill.ensures refl in
    let once = stands_after by_list three_homes 0 0 _ _ first_bills new first.1 in
    let second = bills_are by_list _ three_homes 100 1 _ _ _ second_bills means once c.bill-2.ensures refl in
    let twice = stands_after by_list three_homes 100 1 _ _ second_bills once second.1 in
    billable by_list _ three_homes 200 2 _ means twice (omega arith) (omega arith) refl (omega arith)

pub returns : goal.returns
returns c =
    let means = ap₂ listed c.list-rule.ensures.box_is c.list-rule.ensures.table_is in
    let new = newly three_homes _ c.three_homes.ensures in
    let first = bills_are by_list _ three_homes 0 0 _ _ _ first_bills means new c.bill.ensures refl in
    let once = stands_after by_list three_homes 0 0 _ _ first_bills new first.1 in
    let second = bills_are by_list _ three_homes 100 1 _ _ _ second_bills means once c.bill-2.ensures refl in
    let twice = stands_after by_list three_homes 100 1 _ _ second_bills once second.1 in
    let third = bills_are by_list _ three_homes 200 2 _ _ _ third_bills means twice c.bill-3.ensures refl in
    rw (first.0, second.0, third.0) refl
