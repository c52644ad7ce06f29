use Rattle.std.proofs.Common.{arith}
use Rattle.composition.specs.Counts.{nobody}
use Rattle.composition.specs.declared.demand_type.DemandType.TheVariants.{One}
use Rattle.figures.proofs.Workings.{opened, home_joins}
use Rattle.figures.proofs.accounts.one_home.Goals as goal

pub unwrap-requires : goal.unwrap-requires
unwrap-requires c = (home_joins One nobody _ _ _ (omega arith) (opened c.open_after-account.ensures.opened) c.join.ensures).0

pub returns : goal.returns
returns c = (home_joins One nobody _ _ _ (omega arith) (opened c.open_after-account.ensures.opened) c.join.ensures).1
