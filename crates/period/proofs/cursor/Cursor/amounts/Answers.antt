use Rattle.period.specs.Reader.{value}
use Rattle.period.specs.Words.{generation_kind}
use Rattle.period.proofs.cursor.Cursor.amounts.Goals as goal

pub returns : goal.returns
returns c =
    let ds = c.in_ok-demands.ensures in
    ((ds.0, c.in_ok-word.field-0), λ next. cc (ds.1 (λ ds. value generation_kind (λ g. next (ds, g))), c.in_ok-word.ensures.reads (λ g. next (ds.0, g))))
