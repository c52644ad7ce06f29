use Rattle.std.proofs.Common.{◌++◌, drop}
use Rattle.account.specs.Filling.{FilledTo}
use Rattle.account.proofs.account.filling.fill.Given as goal

abbrev pub invariant-loop-place : goal.invariant-loop-place
invariant-loop-place g l =
    FilledTo (g.R.CostRule.meaning l.rule) l.homes.counts l.place-counter l.fn.table (l.entry-items ++ drop l.size l.fn.table)
