use Rattle.std.proofs.Common.{◌∙◌, arith}
use Rattle.period.proofs.AcceptedPages.{begins}
use Rattle.period.proofs.period.Period.field.Goals as goal

pub returns : goal.returns
returns c = c.field_value.ensures ∙ (begins c.args.self.now.words.now c.args.self.now.accepted).rating c.args.field _ (grind arith)
