use Rattle.std.proofs.Common.{All}
use Rattle.std.proofs.lemmas.Result.{err_from_is_err_and}
use Rattle.ledger_lines.proofs.Refusing.{refused_at}
use Rattle.ledger_lines.proofs.fields.all.Goals as goal

pub returns-in_err-read_number : goal.returns-in_err-read_number
returns-in_err-read_number g c =
    let p = err_from_is_err_and c.from_residual.result c.from_residual.ensures.1 in
    rw (p.1, p.2) (refused_at g.N.Number.of_type g.N.Number.printed c.args.words.now c.loop-word.word-index _ (λ numbers. numbers.items) (λ numbers. All g.N.Number.of_type numbers.items) _ c.loop-word-test.true c.in_err-read_number.ensures (λ numbers all. all))
