use Rattle.std.proofs.Common.{drop, sym, ◌∙◌}
use Rattle.std.proofs.lemmas.Result.{err_from_is_err_and}
use Rattle.ledger_lines.proofs.KindWords.{seen_first, rule_begins}
use Rattle.ledger_lines.proofs.Refusing.{through}
use Rattle.ledger_lines.specs.Forms.{rule_kind_word}
use Rattle.ledger_lines.specs.Lines.{seen}
use Rattle.ledger_lines.specs.Reading.{Anything}
use Rattle.ledger_lines.specs.Types.{RuleInTypes}
use Rattle.ledger_lines.specs.Words.{rule_words}
use Rattle.ledger_lines.proofs.forms.written_rule.Goals as goal

pub returns-in_err-read : goal.returns-in_err-read
returns-in_err-read c =
    let p = err_from_is_err_and c.from_residual.result c.from_residual.ensures.1 in
    rw (p.1, p.2) (through Anything rule_kind_word _ RuleInTypes rule_words (seen c.args.words.now) _ c.in_err-read.ensures
    (λ r allowed written. rule_begins r _ (seen (drop 1 c.args.words.now)) (sym (seen_first c.args.words.now _ c.in-len1-up.len_at_least) ∙ written)))
