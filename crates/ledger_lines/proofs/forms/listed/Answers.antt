use Rattle.std.proofs.Common.{All, FitsSigned, w32}
use Rattle.std.proofs.lemmas.Result.{err_from_is_err_and}
use Rattle.std.specs.Fmt.{decimal, signed_decimal}
use Rattle.ledger_lines.proofs.Apart.{listed_apart}
use Rattle.ledger_lines.proofs.Refusing.{through}
use Rattle.ledger_lines.specs.Lines.{seen}
use Rattle.ledger_lines.specs.Types.{Bits, FourOf, ListedInTypes}
use Rattle.ledger_lines.specs.Words.{each, counted, listed_words}
use Rattle.ledger_lines.proofs.forms.listed.Goals as goal

pub returns-in_err-largest : goal.returns-in_err-largest
returns-in_err-largest c =
    let p = err_from_is_err_and c.from_residual.result c.from_residual.ensures.1 in
    rw (p.1, p.2) (through (FourOf (Bits 8)) (each decimal) (seen c.in-Some.largest.now) ListedInTypes listed_words (seen c.args.words.now) _ c.in_err-largest.ensures
    (λ l allowed written. (l.largest, allowed.0, (listed_apart c.args.words.now c.in-Some.largest.now c.in-Some.table.now c.in-Some.ensures.cases l allowed written).0)))

pub returns-in_err-table : goal.returns-in_err-table
returns-in_err-table c =
    let p = err_from_is_err_and c.from_residual-in_err-table.result c.from_residual-in_err-table.ensures.1 in
    rw (p.1, p.2) (through (λ table. All (FitsSigned w32) table.items) (λ table. counted signed_decimal table.items) (seen c.in-Some.table.now) ListedInTypes listed_words (seen c.args.words.now) _ c.in_err-table.ensures
    (λ l allowed written. (l.table, allowed.1, (listed_apart c.args.words.now c.in-Some.largest.now c.in-Some.table.now c.in-Some.ensures.cases l allowed written).1)))
