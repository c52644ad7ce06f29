use Rattle.std.proofs.Common.{◌∙◌, ap}
use Rattle.std.proofs.lemmas.Result.{err_from_is_err_and}
use Rattle.ledger_lines.proofs.Texts.{no_keyword, keyword_and_fields}
use Rattle.ledger_lines.specs.Lines.{seen}
use Rattle.ledger_lines.proofs.reading.read.Goals as goal

pub returns-in_err-read : goal.returns-in_err-read
returns-in_err-read c =
    let p = err_from_is_err_and c.from_residual-in_err-read.result c.from_residual-in_err-read.ensures.1 in
    rw (p.1, p.2) (no_keyword c.as_slice.result.now _ c.args.text.now _ c.in-len1-up.len_at_least (ap seen c.as_slice.ensures.value ∙ c.in_ok-words.ensures) c.in_err-read.ensures)

pub returns : goal.returns
returns c =
    keyword_and_fields c.as_slice.result.now _ c.args.text.now c.in_ok-read.field-0 _ c.in-len1-up.len_at_least (ap seen c.as_slice.ensures.value ∙ c.in_ok-words.ensures) c.in_ok-read.ensures.1 c.line_with.ensures
