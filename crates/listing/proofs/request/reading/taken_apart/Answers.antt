use Rattle.std.proofs.Common.{◌++◌, sym, subst, arith}
use Rattle.std.proofs.lemmas.List.{take_rest}
use Rattle.listing.proofs.ReadingRequests.{four_written, written_by_four}
use Rattle.listing.specs.Inputs.{WritesDown, homes_words}
use Rattle.listing.proofs.request.reading.taken_apart.Goals as goal

pub returns-in_err-words_in : goal.returns-in_err-words_in
returns-in_err-words_in c =
    rw c.from_residual.ensures
    (λ counts words written. absurd (c.in_err-words_in.ensures (homes_words counts ++ words) written.as_written written.short))

pub returns-in_default : goal.returns-in_default
returns-in_default c counts words written =
    let read = c.in_ok-words_in.ensures in
    let by = written_by_four c.args.input.now c.in_ok-words_in.field-0.now counts words read.0 read.1 written in
    absurd (omega (arith, by.0, c.in_default.len_below))

pub returns-in_err-open_for : goal.returns-in_err-open_for
returns-in_err-open_for c =
    let read = c.in_ok-words_in.ensures in
    rw c.from_residual-in_err-open_for.ensures
    (λ counts words written.
    let by = written_by_four c.args.input.now c.in_ok-words_in.field-0.now counts words read.0 read.1 written in
    absurd (c.in_err-open_for.ensures counts written.four written.few by.1))

pub returns : goal.returns
returns c =
    let ws = c.in_ok-words_in.field-0.now in
    let read = c.in_ok-words_in.ensures in
    let opened = c.in_ok-open_for.ensures in
    let written = four_written c.args.input.now ws c.in_ok-open_for.field-0 opened read.0 read.1 read.2 c.in-len4-up.len_at_least in
    (opened.0, subst (λ words. WritesDown opened.0 words c.args.input.now) (sym (take_rest ws 4)) written, opened.3)
