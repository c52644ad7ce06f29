use Rattle.std.proofs.Common.{◌+◌, ◌*◌}
use Rattle.rule_book.proofs.book.RuleBook.+answer.Given as goal

-- the parts of a sum have lower numbers
abbrev pub decreases-answer : goal.decreases-answer
decreases-answer l = 2 * l.number + 1

abbrev pub decreases-worked_out : goal.decreases-worked_out
decreases-worked_out l = 2 * l.number
