use Rattle.std.proofs.Common.{arith}
use Rattle.std.proofs.lemmas.Result.{err_from_is_err_and}
use Rattle.ledger_lines.specs.Types.{FourOf}
use Rattle.ledger_lines.proofs.Four.{four_read}
use Rattle.ledger_lines.proofs.Refusing.{refused_at}
use Rattle.ledger_lines.proofs.fields.four.Goals as goal

pub returns-in_err-read_number : goal.returns-in_err-read_number
returns-in_err-read_number g c =
    let p = err_from_is_err_and c.from_residual.result c.from_residual.ensures.1 in
    rw (p.1, p.2) (refused_at g.N.Number.of_type g.N.Number.printed c.args.words.now 0 _ (λ ns. ns) (FourOf g.N.Number.of_type) _ (omega arith) c.in_err-read_number.ensures (λ ns four. four.1))

pub returns-in_err-read_number-3 : goal.returns-in_err-read_number-3
returns-in_err-read_number-3 g c =
    let p = err_from_is_err_and c.from_residual-in_err-read_number-3.result c.from_residual-in_err-read_number-3.ensures.1 in
    rw (p.1, p.2) (refused_at g.N.Number.of_type g.N.Number.printed c.args.words.now 2 _ (λ ns. ns) (FourOf g.N.Number.of_type) _ (omega arith) c.in_err-read_number-3.ensures (λ ns four. four.1))

pub returns-in_err-read_number-4 : goal.returns-in_err-read_number-4
returns-in_err-read_number-4 g c =
    let p = err_from_is_err_and c.from_residual-in_err-read_number-4.result c.from_residual-in_err-read_number-4.ensures.1 in
    rw (p.1, p.2) (refused_at g.N.Number.of_type g.N.Number.printed c.args.words.now 3 _ (λ ns. ns) (FourOf g.N.Number.of_type) _ (omega arith) c.in_err-read_number-4.ensures (λ ns four. four.1))

pub returns : goal.returns
returns g c = four_read g.N.Number.of_type g.N.Number.printed c.args.words.now _ _ _ _ (omega arith) c.in_ok-read_number.ensures c.in_ok-read_number-2.ensures c.in_ok-read_number-3.ensures c.in_ok-read_number-4.ensures
