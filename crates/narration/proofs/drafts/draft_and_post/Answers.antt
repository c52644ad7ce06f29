use Rattle.std.proofs.lemmas.Result.{IfOk-weaker}
use Rattle.cost_rules.specs.Meanings.{Lawful}
use Rattle.account.specs.Runs.{GoesOn}
use Rattle.account.specs.Calls.{Posted}
use Rattle.narration.specs.Story.{DraftEnded}
use Rattle.account.proofs.GoingOn.{after_posting}
use Rattle.narration.proofs.drafts.draft_and_post.Goals as goal

pub returns-clause-goes_on : goal.returns-clause-goes_on
returns-clause-goes_on g c =
    let rule = c.args.rule.now in
    let lawful : Lawful (g.R.CostRule.meaning rule) = record { free = g.R.CostRule.free rule; limited = g.R.CostRule.limited rule } in
    IfOk-weaker c.draft_and.result _ (GoesOn c.args.account)
    (λ b done. after_posting (g.R.CostRule.meaning rule) c.args.account b done.0 c.args.table.now _ lawful done.1 done.2.1) c.draft_and.ensures

pub returns-clause-posted : goal.returns-clause-posted
returns-clause-posted g c =
    IfOk-weaker c.draft_and.result _ (DraftEnded Posted (g.R.CostRule.meaning c.args.rule.now) c.args.account c.args.table.now c.draft_and.new.table)
    (λ b done. (done.0, done.1, done.2.1)) c.draft_and.ensures
