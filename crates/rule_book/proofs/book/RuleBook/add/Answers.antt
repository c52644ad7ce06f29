use Rattle.std.proofs.Common.{arith}
use Rattle.rule_book.proofs.book.RuleBook.add.Goals as goal

pub invariant_of-self-clause-few : goal.invariant_of-self-clause-few
invariant_of-self-clause-few c = omega arith
