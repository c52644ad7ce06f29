use Rattle.std.proofs.Common.{◌<◌, length, arith, rules}
use Rattle.composition.proofs.Places.{size_above_none}
use Rattle.cost_rules.proofs.listed.ListedRule.fill.Goals as goal

pub bounds-table-0 : goal.bounds-table-0
bounds-table-0 c =
    let some : 0 < length c.args.table.now = omega (arith, size_above_none c.in_ok-largest.largest.counts, c.size.ensures, c.if-table-size.false) in
    search rules
