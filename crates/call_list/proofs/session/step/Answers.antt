use Rattle.std.proofs.Common.{refl}
use Rattle.call_list.proofs.session.step.Goals as goal

pub returns-in-Cost-clause-inside : goal.returns-in-Cost-clause-inside
returns-in-Cost-clause-inside c = rw (c.in-Cost.is) (c.cost.ensures, refl)

pub returns-in-Ask-clause-inside : goal.returns-in-Ask-clause-inside
returns-in-Ask-clause-inside c = rw (c.in-Ask.is) ((c.ask.result, c.ask.ensures, c.answered-in-Ask.ensures), refl)
