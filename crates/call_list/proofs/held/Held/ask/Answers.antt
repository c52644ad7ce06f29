use Rattle.std.proofs.Common.{subst}
use Rattle.call_list.specs.Holding.{Asked}
use Rattle.metering.specs.Grid.{grid_cost}
use Rattle.metering.specs.Metered.{metered}
use Rattle.period.specs.Filled.{page}
use Rattle.call_list.proofs.held.Held.ask.Goals as goal

pub returns-in-Listed : goal.returns-in-Listed
returns-in-Listed c = rw (c.in-Listed.is) c.ask.ensures

pub returns-in-Head : goal.returns-in-Head
returns-in-Head c = rw (c.in-Head.is) c.ask-in-Head.ensures

pub returns-in-Peak : goal.returns-in-Peak
returns-in-Peak c = rw (c.in-Peak.is) c.ask-in-Peak.ensures

pub returns-in-Check : goal.returns-in-Check
returns-in-Check c = rw (c.in-Check.is) (subst (λ p. Asked (metered grid_cost (page p)) c.args.of c.ask-in-Check.result) c.on.ensures.holds c.ask-in-Check.ensures)
