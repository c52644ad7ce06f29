use Rattle.account.specs.Terms.{today}
use Rattle.account.proofs.Promises.{promise}
use Rattle.account.proofs.account.Account.open_after.Goals as goal

pub returns-clause-promise : goal.returns-clause-promise
returns-clause-promise c = promise today c.args.last
