use Rattle.rule_book.proofs.Knowing.{nothing_known}
use Rattle.rule_book.specs.Limits.{most_rules}
use Rattle.rule_book.proofs.rule.BookRule.kept_cost.Goals as goal

pub answer-requires-clause-known : goal.answer-requires-clause-known
answer-requires-clause-known c = nothing_known c.args.self.now.book.now.definitions.items c.args.of.now.counts most_rules
