use Rattle.std.proofs.Common.{refl}
use Rattle.replaying.proofs.ledger.outside.Goals as goal

pub returns-in-List : goal.returns-in-List
returns-in-List c = rw (c.in-List.is) (c.begin.result, refl, c.begin.ensures, refl)
