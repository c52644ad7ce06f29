use Rattle.std.proofs.Common.{subst}
use Rattle.call_list.specs.Accounts.{AfterCall}
use Rattle.call_list.proofs.standing.Standing.join.Goals as goal

pub returns : goal.returns
returns c =
    rw (c.in-Open.is)
    record {
      result = c.join.result;
      left = c.join.new.self;
      joined = c.join.ensures;
      told = subst (λ answer. AfterCall c.join.new.self answer c.after_call.result.1 c.after_call.result.0) c.done-answer.ensures c.after_call.ensures;
    }
