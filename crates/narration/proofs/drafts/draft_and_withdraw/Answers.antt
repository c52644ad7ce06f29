use Rattle.std.proofs.lemmas.Result.{IfOk-weaker}
use Rattle.cost_rules.specs.Meanings.{Lawful}
use Rattle.account.specs.Runs.{GoesOn}
use Rattle.account.specs.Calls.{Withdrawn}
use Rattle.narration.specs.Story.{DraftEnded}
use Rattle.account.proofs.GoingOn.{after_withdrawal}
use Rattle.narration.proofs.drafts.draft_and_withdraw.Goals as goal

pub returns-clause-goes_on : goal.returns-clause-goes_on
returns-clause-goes_on g c =
    let rule = c.args.rule.now in
    let lawful : Lawful (g.R.CostRule.meaning rule) = record { free = g.R.CostRule.free rule; limited = g.R.CostRule.limited rule } in
    IfOk-weaker c.draft_and.result _ (GoesOn c.args.account)
    (λ b done. after_withdrawal (g.R.CostRule.meaning rule) c.args.account b done.0 c.args.table.now _ lawful done.1 done.2.1) c.draft_and.ensures

pub returns-clause-withdrawn : goal.returns-clause-withdrawn
returns-clause-withdrawn g c =
    IfOk-weaker c.draft_and.result _ (DraftEnded Withdrawn (g.R.CostRule.meaning c.args.rule.now) c.args.account c.args.table.now c.draft_and.new.table)
    (λ b done. (done.0, done.1, done.2.1)) c.draft_and.ensures
