use Rattle.std.proofs.Common.{refl, ap, Some, None}
use Rattle.answers.specs.declared.outcome.Outcome.TheVariants.{Answered}
use Rattle.call_list.proofs.standing.accepted.Goals as goal

pub returns : goal.returns
returns c = ((c.args.table, refl, ap (λ answer. Answered answer (Some c.args.table) None) c.drafted.ensures), refl)
