use Rattle.account.specs.Bills.{cost_by}
use Rattle.account.proofs.FilledTables.{filled_within, filled_costs, billed_alike}
use Rattle.account.proofs.account.Account.draft.Goals as goal

pub bill-requires-clause-limits : goal.bill-requires-clause-limits
bill-requires-clause-limits g c =
    let a = c.args.self in
    filled_within (g.R.CostRule.meaning c.args.rule.now) a.homes.counts c.args.table.now _ (g.R.CostRule.limited c.args.rule.now) a.homes.four a.homes.few c.in-Ok.ensures.1

pub returns-in-Ok : goal.returns-in-Ok
returns-in-Ok g c =
    let a = c.args.self in
    let f = g.R.CostRule.meaning c.args.rule.now in
    let prepared = c.in-Ok.ensures in
    record {
      ready = prepared.0;
      filled = prepared.1;
      billed =
          billed_alike _ (cost_by f) a _ (filled_costs f a.homes.counts c.args.table.now _ prepared.1) c.bill.ensures;
    }
