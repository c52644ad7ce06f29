use Rattle.std.proofs.lemmas.Result.{err_from_is_err_and}
use Rattle.listing.proofs.FirstDrafts.{listed, not_listed}
use Rattle.listing.specs.Inputs.{Asks}
use Rattle.listing.specs.Requests.{IsFor}
use Rattle.listing.proofs.listing.list.Goals as goal

pub returns-in_err-draft : goal.returns-in_err-draft
returns-in_err-draft c =
    let read : Asks c.args.input.now (IsFor c.in_ok-read.field-0) = c.in_ok-read.ensures in
    let answer = err_from_is_err_and c.from_residual-in_err-draft.result c.from_residual-in_err-draft.ensures.1 in
    rw (answer.1, answer.2)
    (not_listed c.args.input.now c.in_ok-read.field-0 _ c.draft.new.table c.draft.result c.in_err-draft.field-0.0 read c.draft.ensures c.in_err-draft.was)

pub returns : goal.returns
returns c =
    let read : Asks c.args.input.now (IsFor c.in_ok-read.field-0) = c.in_ok-read.ensures in
    listed c.args.input.now c.in_ok-read.field-0 _ c.draft.new.table c.draft.result c.in_ok-draft.draft read c.draft.ensures c.in_ok-draft.was
