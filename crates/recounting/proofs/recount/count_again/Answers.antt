use Rattle.std.proofs.Common.{ap, ◌∙◌, refl, subst}
use Rattle.std.proofs.lemmas.Result.{err_from_is_err_and}
use Rattle.composition.specs.declared.composition.Composition.{Composition}
use Rattle.shapley.specs.TablesMade.{TableMade}
use Rattle.listing.proofs.FirstDrafts.{not_listed}
use Rattle.listing.specs.Inputs.{Asks}
use Rattle.listing.specs.Requests.{IsFor}
use Rattle.recounting.proofs.CountedAgain.{counted_again, taken}
use Rattle.recounting.proofs.recount.count_again.Goals as goal

pub returns-in_err-draft : goal.returns-in_err-draft
returns-in_err-draft c =
    let read : Asks c.args.input.now (IsFor c.in_ok-read.field-0) = c.in_ok-read.ensures in
    let answer = err_from_is_err_and c.from_residual-in_err-draft.result c.from_residual-in_err-draft.ensures.1 in
    rw (answer.1, answer.2)
    (not_listed c.args.input.now c.in_ok-read.field-0 _ c.draft.new.table c.draft.result c.in_err-draft.field-0.0 read c.draft.ensures c.in_err-draft.was)

pub unwrap-table-requires : goal.unwrap-table-requires
unwrap-table-requires c =
    taken c.in_ok-read.field-0 _ c.draft.new.table c.draft.result c.in_ok-draft.draft c.homes.result c.new.result c.draft.ensures c.in_ok-draft.was c.homes.ensures c.new.ensures

pub returns : goal.returns
returns c =
    let read : Asks c.args.input.now (IsFor c.in_ok-read.field-0) = c.in_ok-read.ensures in
    let made = subst (TableMade c.homes.result.counts c.draft.new.table) c.unwrap-table.ensures c.new.ensures in
    counted_again c.args.input.now c.in_ok-read.field-0 _ c.draft.new.table c.draft.result c.in_ok-draft.draft c.unwrap-table.result _ read c.draft.ensures c.in_ok-draft.was
    (made.0 ∙ ap (λ (h : Composition). h.counts) c.homes.ensures) made.1 c.all_by_groups-by_groups.ensures refl
