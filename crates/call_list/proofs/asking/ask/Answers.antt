use Rattle.std.proofs.Common.{Ok, Err, ap, ◌∙◌}
use Rattle.answers.specs.Answers.{costed}
use Rattle.call_list.proofs.asking.ask.Goals as goal

pub returns-in-Ok : goal.returns-in-Ok
returns-in-Ok g c = (Ok c.in-Ok.group, c.in-Ok.ensures, c.cost-in-Ok.ensures ∙ ap costed c.cost.ensures)

pub returns-in-Err : goal.returns-in-Err
returns-in-Err g c = (Err c.in-Err.refusal, c.in-Err.ensures, c.refused.ensures)
