use Rattle.std.proofs.Common.{is_ok, ap}
use Rattle.std.proofs.lemmas.Result.{err_from_is_err_and}
use Rattle.period.proofs.AcceptedPages.{accepted_writes, only_page}
use Rattle.period.proofs.FirstOffence.{refused}
use Rattle.period.proofs.period.Period.fill.Goals as goal

pub returns-in_err-check : goal.returns-in_err-check
returns-in_err-check c =
    let answer = err_from_is_err_and c.from_residual.result c.from_residual.ensures.1 in
    rw (answer.1, answer.2) (cc, refused c.args.words.now _ c.in_err-check.ensures)

pub returns : goal.returns
returns c = (cc, accepted_writes c.args.words.now (ap is_ok c.in_ok-check.ensures.1), only_page c.args.words.now)
