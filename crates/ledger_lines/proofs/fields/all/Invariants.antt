use Rattle.std.proofs.Common.{All, ◌≡◌, take}
use Rattle.ledger_lines.specs.Lines.{seen}
use Rattle.ledger_lines.specs.Words.{each}
use Rattle.ledger_lines.proofs.fields.all.Given as goal

abbrev pub invariant-loop-word : goal.invariant-loop-word
invariant-loop-word g l = All g.N.Number.of_type l.numbers.items × (seen (take l.word-index l.words) ≡ each g.N.Number.printed l.numbers.items)
