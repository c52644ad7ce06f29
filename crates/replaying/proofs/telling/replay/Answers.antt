use Rattle.replaying.proofs.ListsRun.{lists_are_runs, drafts_are_by_their_rules}
use Rattle.replaying.proofs.telling.replay.Goals as goal

pub returns-in_err-entries-clause-runs : goal.returns-in_err-entries-clause-runs
returns-in_err-entries-clause-runs c = lists_are_runs

pub returns-in_err-entries-clause-drafts : goal.returns-in_err-entries-clause-drafts
returns-in_err-entries-clause-drafts c = drafts_are_by_their_rules

pub returns-clause-runs : goal.returns-clause-runs
returns-clause-runs c = lists_are_runs

pub returns-clause-drafts : goal.returns-clause-drafts
returns-clause-drafts c = drafts_are_by_their_rules
