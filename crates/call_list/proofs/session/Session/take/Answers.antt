use Rattle.call_list.proofs.LinesInside.{goes_on}
use Rattle.call_list.proofs.session.Session.take.Goals as goal

pub returns : goal.returns
returns c = record { goes_on = goes_on c.args.line.now c.args.self c.in_ok-standing.outcome _ c.in_ok-standing.ensures.inside; memory = tt }
