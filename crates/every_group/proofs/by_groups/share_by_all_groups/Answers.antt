use Rattle.every_group.proofs.Recounting.{as_drafted, from_subsets, of_newcomer}
use Rattle.every_group.proofs.by_groups.share_by_all_groups.Goals as goal

pub returns-clause-from_subsets : goal.returns-clause-from_subsets
returns-clause-from_subsets c =
    let home = c.in_ok-of.ensures in
    let (some, from) = of_newcomer c.args.table.now c.args.of c.in_ok-of.field-0 c.share.result home.0 home.1 c.share.ensures in
    from_subsets c.args.table.now c.args.of c.share.result some from

pub returns-clause-as_drafted : goal.returns-clause-as_drafted
returns-clause-as_drafted c =
    let home = c.in_ok-of.ensures in
    let (some, from) = of_newcomer c.args.table.now c.args.of c.in_ok-of.field-0 c.share.result home.0 home.1 c.share.ensures in
    as_drafted c.args.table.now c.args.of c.share.result some from
