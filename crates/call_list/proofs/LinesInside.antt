-- Lines that do not end a list.
use Rattle.std.proofs.Common.{Some, refl}
use Rattle.answers.specs.declared.outcome.Outcome.{Outcome}
use Rattle.ledger_lines.specs.declared.line.Line.{Line}
use Rattle.ledger_lines.specs.declared.line.Line.TheVariants.{End}
use Rattle.call_list.specs.Lists.{GoesOnWith, Inside}
use Rattle.call_list.specs.declared.session.Session.{Session}

-- after any other line the list goes on
pub goes_on : (line : Line) (s : Session) (o : Outcome) (t : Session) → Inside line s o t → GoesOnWith line s o (Some t)
goes_on End s o t h = elim h [ ]
goes_on line s o t h = (t, refl, h)
