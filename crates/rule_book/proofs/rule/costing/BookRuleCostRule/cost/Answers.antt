use Rattle.rule_book.proofs.Following.{told_alone}
use Rattle.rule_book.proofs.rule.costing.BookRuleCostRule.cost.Goals as goal

pub returns-in_default : goal.returns-in_default
returns-in_default c =
    let book = c.args.self.now.book.now in
    told_alone book.definitions.items c.args.self.now.number c.index.result.now c.args.of.now.counts c.own_cost.result book.ordered c.args.self.now.there c.index.ensures c.in_default.not-Sum
    c.own_cost.ensures
