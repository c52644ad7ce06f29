use Rattle.std.proofs.Common.{refl, arith}
use Rattle.std.proofs.lemmas.Result.{err_from_is_err_and}
use Rattle.composition.proofs.Changes.{total_raised, type_counted}
use Rattle.composition.specs.Types.{position}
use Rattle.account.proofs.account.Account.join.Goals as goal

pub returns-in_err-self : goal.returns-in_err-self
returns-in_err-self c =
    let k = c.in_ok-of.of in
    let homes = c.args.self.now.homes in
    let answer = err_from_is_err_and c.from_residual-in_err-self.result c.from_residual-in_err-self.ensures.1 in
    rw (answer.1, answer.2) (
      k,
      c.in_ok-of.ensures,
      omega (arith, total_raised (position k) homes.counts (type_counted k homes), homes.few, c.in_err-self.ensures),
      refl,
    )
