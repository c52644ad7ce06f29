use Rattle.std.proofs.Common.{◌-◌, length, take, drop, sym, ◌∙◌, All, FitsSigned, w64}
use Rattle.std.specs.Fmt.{decimal, signed_decimal}
use Rattle.std.proofs.lemmas.Result.{err_from_is_err_and}
use Rattle.ledger_lines.proofs.Apart.{apart_last}
use Rattle.ledger_lines.proofs.KindWords.{seen_first, making_begins, peak_words}
use Rattle.ledger_lines.proofs.Refusing.{through, through_last}
use Rattle.ledger_lines.specs.Lines.{seen}
use Rattle.ledger_lines.specs.Reading.{Anything}
use Rattle.ledger_lines.specs.Types.{MakingInTypes, Bits}
use Rattle.ledger_lines.specs.Words.{kind_word, making_words, counted}
use Rattle.ledger_lines.proofs.forms.making.Goals as goal

pub returns-in_err-read : goal.returns-in_err-read
returns-in_err-read c =
    let p = err_from_is_err_and c.from_residual.result c.from_residual.ensures.1 in
    rw (p.1, p.2) (through Anything kind_word _ MakingInTypes making_words (seen c.args.words.now) _ c.in_err-read.ensures
    (λ m allowed written. making_begins m _ (seen (drop 1 c.args.words.now)) (sym (seen_first c.args.words.now _ c.in-len1-up.len_at_least) ∙ written)))

pub returns-in_err-front-in-Peak : goal.returns-in_err-front-in-Peak
returns-in_err-front-in-Peak c =
    let p = err_from_is_err_and c.from_residual-in_err-front-in-Peak.result c.from_residual-in_err-front-in-Peak.ensures.1 in
    let words = c.args.words.now in
    rw (p.1, p.2) (through_last (FitsSigned w64) signed_decimal (seen (take (length words - 1) (drop 1 words))) MakingInTypes making_words (seen words) _ c.in_err-front-in-Peak.ensures
    (λ m allowed written.
    let q = peak_words words _ c.in_ok-read.field-0 m c.in-len1-up.len_at_least c.in-Peak.is c.in_ok-read.ensures.1 allowed written in
    (q.1, counted decimal q.0.items, q.3, q.4)))

pub returns-in_err-words-in-Peak : goal.returns-in_err-words-in-Peak
returns-in_err-words-in-Peak c =
    let p = err_from_is_err_and c.from_residual-in_err-words-in-Peak.result c.from_residual-in_err-words-in-Peak.ensures.1 in
    let words = c.args.words.now in
    let front = seen c.in_ok-front-in-Peak.front.now in
    rw (p.1, p.2) (through (λ numbers. All (Bits 32) numbers.items) (λ numbers. counted decimal numbers.items) front MakingInTypes making_words (seen words) _ c.in_err-words-in-Peak.ensures
    (λ m allowed written.
    let q = peak_words words _ c.in_ok-read.field-0 m c.in-len1-up.len_at_least c.in-Peak.is c.in_ok-read.ensures.1 allowed written in
    (q.0, q.2, apart_last front (counted decimal q.0.items) _ _ (sym c.in_ok-front-in-Peak.ensures.1 ∙ q.4))))
