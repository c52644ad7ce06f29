use Rattle.account.specs.Runs.{Been}
use Rattle.figures.specs.Accounts.{NewlyJoined}
use Rattle.narration.proofs.Lists.{joined_by}
use Rattle.narration.proofs.homes.open_and_join.Given as goal

abbrev pub invariant-loop-number : goal.invariant-loop-number
invariant-loop-number g l = Been 0 l.account × NewlyJoined (joined_by l.number-index) l.account
