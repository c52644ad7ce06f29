use Rattle.narration.proofs.Stories.{at_price}
use Rattle.narration.proofs.meter.peak_rule.Goals as goal

pub returns : goal.returns
returns g c =
    at_price _ c.args.period _ c.fill-answer.new.self _ c.fill-answer.result c.fill-answer.ensures.filled c.in_ok-unless_refused.ensures.refused
    c.fill-answer.ensures.promise
