use Rattle.std.proofs.Common.{rules}
use Rattle.metering.proofs.Promises.{peak_promise}
use Rattle.metering.proofs.peak_rule.PeakRule.built_in.Goals as goal

pub returns-clause-promise : goal.returns-clause-promise
returns-clause-promise c = peak_promise _ _ (search rules)
