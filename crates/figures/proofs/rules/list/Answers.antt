use Rattle.figures.proofs.Workings.{lists}
use Rattle.figures.proofs.rules.list.Goals as goal

pub unwrap-requires : goal.unwrap-requires
unwrap-requires c = (lists _ _ _ _ _ c.requires c.fill.ensures).0

pub returns : goal.returns
returns c = (lists _ _ _ _ _ c.requires c.fill.ensures).1
