use Rattle.std.proofs.Common.{◌≡◌, arith}
use Rattle.period.proofs.AcceptedPages.{begins, says}
use Rattle.period.specs.Filled.{page}
use Rattle.period.proofs.period.Period.types.Goals as goal

pub returns : goal.returns
returns c =
    let words = c.args.self.now.words.now in
    let told : c.value.result ≡ (page c.args.self.now).types = omega (arith, c.value.ensures, (begins words c.args.self.now.accepted).types) in
    record { value = told; law = says words c.args.self.now.accepted (λ p. c.value.result ≡ p.types) told }
