use Rattle.std.proofs.Common.{take, drop, ◌∙◌, subst, ◌≡◌, Ok, Err, length, ◌++◌}
use Rattle.call_list.specs.Accounts.{DraftShown}
use Rattle.std.proofs.lemmas.List.{take_at}
use Rattle.account.specs.Calls.{Drafted}
use Rattle.account.specs.Terms.{today}
use Rattle.call_list.proofs.standing.Standing.draft.Goals as goal

pub returns-in-Ok : goal.returns-in-Ok
returns-in-Ok g c =
    let written : take c.args.table.len (c.draft.new.table ++ drop (length c.draft.new.table) c.args.table.items) ≡ c.draft.new.table = take_at c.draft.new.table _ c.args.table.len (c.draft.auto.table ∙ c.as_mut_slice.ensures.len) in
    rw (c.in-Open.is)
    record {
      lawful = record { free = g.R.CostRule.free c.args.rule.now; limited = g.R.CostRule.limited c.args.rule.now };
      result = Ok c.in-Ok.draft;
      after = c.draft.new.table;
      drafted = subst (λ table. Drafted today (g.R.CostRule.meaning c.args.rule.now) c.in-Open.account table (Ok c.in-Ok.draft) c.draft.new.table) c.as_mut_slice.ensures.value c.in-Ok.ensures;
      told = subst (λ after. DraftShown (Ok c.in-Ok.draft) after c.accepted.result.1 c.accepted.result.0) written c.accepted.ensures;
    }

pub returns-in-Err : goal.returns-in-Err
returns-in-Err g c =
    let written : take c.args.table.len (c.draft.new.table ++ drop (length c.draft.new.table) c.args.table.items) ≡ c.draft.new.table = take_at c.draft.new.table _ c.args.table.len (c.draft.auto.table ∙ c.as_mut_slice.ensures.len) in
    rw (c.in-Open.is)
    record {
      lawful = record { free = g.R.CostRule.free c.args.rule.now; limited = g.R.CostRule.limited c.args.rule.now };
      result = Err c.in-Err.draft;
      after = c.draft.new.table;
      drafted = subst (λ table. Drafted today (g.R.CostRule.meaning c.args.rule.now) c.in-Open.account table (Err c.in-Err.draft) c.draft.new.table) c.as_mut_slice.ensures.value c.in-Err.ensures;
      told = subst (λ after. DraftShown (Err c.in-Err.draft) after c.turned_down.result.1 c.turned_down.result.0) written c.turned_down.ensures;
    }
