use Rattle.std.proofs.Common.{refl}
use Rattle.call_list.proofs.standing.turned_down.Goals as goal

pub returns : goal.returns
returns c = ((c.args.table, refl, rw (c.refused.ensures, c.of.ensures) refl), refl)
