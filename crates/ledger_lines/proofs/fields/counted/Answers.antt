use Rattle.std.proofs.Common.{◌≡◌, ◌<◌, ◌^◌, length, sym, ◌∙◌, arith}
use Rattle.std.proofs.Math.ListN.{length-map}
use Rattle.ledger_lines.proofs.Refusing.{miscounted}
use Rattle.ledger_lines.specs.Lines.{seen}
use Rattle.ledger_lines.proofs.fields.counted.Goals as goal

pub returns-then-count-words : goal.returns-then-count-words
returns-then-count-words g c = λ numbers all written.
    let first = c.in_ok-count.ensures in
    let many : length numbers.items < 2 ^ 64 = omega (arith, numbers.ok.0, numbers.ok.1, numbers.small) in
    miscounted g.N.Number.printed (seen c.in_ok-count.words.now) c.in_ok-count.count numbers.items first.0 many (λ e. let same : c.in_ok-count.count ≡ length c.in_ok-count.words.now = e ∙ length-map c.in_ok-count.words.now (λ w. w.now) in omega arith) (sym first.1 ∙ written)
