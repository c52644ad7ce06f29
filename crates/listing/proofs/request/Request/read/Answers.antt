use Rattle.std.proofs.lemmas.Result.{err_from_is_err_and}
use Rattle.period.specs.Offences.{Refused}
use Rattle.listing.proofs.ReadingRequests.{asks_of}
use Rattle.listing.proofs.request.Request.read.Goals as goal

pub returns-in_err-fill : goal.returns-in_err-fill
returns-in_err-fill c =
    let taken = c.in-Some.ensures in
    let e = c.in_err-fill.field-0.0 in
    let answer = err_from_is_err_and c.from_residual.result c.from_residual.ensures.1 in
    rw (answer.1, answer.2)
    (asks_of c.args.input.now taken.0 c.in-Some.words.now (λ counts words. Refused words e) taken.1 c.in_err-fill.ensures.1)

pub returns : goal.returns
returns c =
    let taken = c.in-Some.ensures in
    asks_of c.args.input.now taken.0 c.in-Some.words.now _ taken.1 (taken.2, c.in_ok-fill.ensures.0)
