use Rattle.std.proofs.Common.{arith, subst, ◌<◌, length}
use Rattle.call_list.specs.Holding.{Asked}
use Rattle.rule_book.specs.Meanings.{means}
use Rattle.call_list.proofs.session.cost.Goals as goal

pub returns-in-Some : goal.returns-in-Some
returns-in-Some c =
    let found = c.in-Some.ensures.found in
    let there : c.args.rule < length c.args.notes.now.book.definitions.items =
    subst (λ b. c.args.rule < length b.definitions.items) found.0 (subst (λ i. i < length c.in-Some.rule.book.now.definitions.items) found.1 c.in-Some.rule.there) in
    let asked = subst (λ b. Asked (means b.definitions.items c.args.rule) c.args.of c.ask.result) found.0
    (subst (λ i. Asked (means c.in-Some.rule.book.now.definitions.items i) c.args.of c.ask.result) found.1 c.ask.ensures) in
    record {
      there = λ h. (c.ask.result, asked, c.answered.ensures);
      none = λ h. absurd (omega (arith, h, there));
    }
