use Rattle.std.proofs.Common.{◌≡◌, refl}
use Rattle.period.proofs.AcceptedPages.{begins, says}
use Rattle.period.specs.Filled.{page}
use Rattle.period.proofs.period.Period.battery.Goals as goal

pub invariant_of-result : goal.invariant_of-result
invariant_of-result c =
    record {
      rated =
          rw (c.field.ensures, c.field-2.ensures, c.field-3.ensures, c.field-4.ensures, c.field-5.ensures)
          (begins c.args.self.now.words.now c.args.self.now.accepted).within.rated;
    }

pub returns-clause-law : goal.returns-clause-law
returns-clause-law c =
    rw (c.field.ensures, c.field-2.ensures, c.field-3.ensures, c.field-4.ensures, c.field-5.ensures)
    (says c.args.self.now.words.now c.args.self.now.accepted (λ p. (page c.args.self.now).rating ≡ p.rating) refl)
