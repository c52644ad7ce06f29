use Rattle.std.proofs.Common.{take}
use Rattle.ledger_lines.specs.Lines.{seen}
use Rattle.replaying.specs.Reading.{AllRead}
use Rattle.replaying.proofs.entries.read_entries.Given as goal

-- the lines so far have been read
abbrev pub invariant-loop-text : goal.invariant-loop-text
invariant-loop-text l = AllRead (take l.text-index (seen l.lines)) l.entries.items
