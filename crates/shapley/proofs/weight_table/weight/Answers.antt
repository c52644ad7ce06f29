use Rattle.std.proofs.Common.{arith, rules}
use borrow.Author.Tests.{tests}
use Rattle.std.proofs.lemmas.Bool.Decides.{nat_tests}
use Rattle.shapley.proofs.Weights.{looked_up, weights_are_exact}
use Rattle.shapley.proofs.weight_table.weight.Goals as goal
use Rattle.shapley.proofs.weight_table.weight.Goals.{then-homes-le24, else-homes-le24}

pub returns-clause-entry : goal.returns-clause-entry
returns-clause-entry c =
    looked_up c.args.homes c.args.others c.then.result
    (λ some. elim c.if-homes-le24.branch [
      | then-homes-le24 w ↦ grind (arith, nat_tests, c.then.ensures.variant)
      | else-homes-le24 w ↦ search (rules, tests)
    ])
    (λ has. elim c.if-homes-le24.branch [ then-homes-le24 w ↦ grind (arith, nat_tests, c.then.ensures.variant) | else-homes-le24 w ↦ absurd (omega arith) ])
    (search rules)

pub returns-clause-rule : goal.returns-clause-rule
returns-clause-rule c = weights_are_exact
