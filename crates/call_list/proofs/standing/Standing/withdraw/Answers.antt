use Rattle.call_list.proofs.EndingDrafts.{on_draft}
use Rattle.call_list.proofs.standing.Standing.withdraw.Goals as goal

pub returns : goal.returns
returns c = on_draft c.args.self c.end.result.1 c.end.result.0 (λ d a h. h.1) c.end.ensures
