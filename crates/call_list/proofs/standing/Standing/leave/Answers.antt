use Rattle.std.proofs.Common.{subst}
use Rattle.call_list.specs.Accounts.{AfterCall}
use Rattle.call_list.proofs.standing.Standing.leave.Goals as goal

pub returns : goal.returns
returns c =
    rw (c.in-Open.is)
    record {
      result = c.leave.result;
      left = c.leave.new.self;
      departed = c.leave.ensures;
      told = subst (λ answer. AfterCall c.leave.new.self answer c.after_call.result.1 c.after_call.result.0) c.done-answer.ensures c.after_call.ensures;
    }
