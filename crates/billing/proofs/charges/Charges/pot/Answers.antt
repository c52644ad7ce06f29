-- Every step is far below what an i64 holds, so that the sum is the one that is written.
use Rattle.std.proofs.Common.{arith}
use Rattle.std.proofs.lemmas.Int.{ints}
use Rattle.billing.proofs.charges.Charges.pot.Goals as goal

pub returns-clause-value : goal.returns-clause-value
returns-clause-value c = omega (arith, ints)
