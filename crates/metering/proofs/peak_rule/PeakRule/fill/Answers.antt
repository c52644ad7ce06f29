use Rattle.std.proofs.Common.{rules}
use Rattle.metering.proofs.Promises.{peak_promise}
use Rattle.metering.proofs.peak_rule.PeakRule.fill.Goals as goal

pub returns-in_err-price-clause-promise : goal.returns-in_err-price-clause-promise
returns-in_err-price-clause-promise c = peak_promise _ _ (search rules)

pub returns-clause-promise : goal.returns-clause-promise
returns-clause-promise c = peak_promise _ _ (search rules)
